-- Shares of a list: intervals of it that are equally long, up to one.
-- Source: this library's own.
use Rattle.std.specs.Prelude.{ℕ, ◌+◌, ◌-◌, ◌*◌, ◌/◌, List, drop, length, take}
use Rattle.zarrs_chunk_plan.specs.declared.shares.share.Share.{Share}

-- how many of so many come before the share with this number: its part of all, rounded down
abbrev pub before_share : (number of all : ℕ) → ℕ
before_share number of all = number * all / of

-- those of a list from one place on up to another
abbrev pub between : {X : Type 0} → (first end : ℕ) → List X → List X
between first end xs = take (end - first) (drop first xs)

-- the share with this number, which is below `of`: from where it begins up to where the next one does
abbrev pub numbered_share : {X : Type 0} → (number of : ℕ) → List X → List X
numbered_share number of xs = between (before_share number of (length xs)) (before_share (number + 1) of (length xs)) xs

abbrev pub share_of : {X : Type 0} → Share → List X → List X
share_of share xs = numbered_share share.number share.of xs
