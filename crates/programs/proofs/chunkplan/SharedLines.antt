-- The lines of a share, of a walk that counts what it has in all and what is before the share.
use Rattle.programs.proofs.chunkplan.Common.{◌≡◌, ℕ, List, Option, length, Share, before_share, counted, lines_from, share_of}

pub lines_of_share : {X : Type 0} (line : (number of : Option ℕ) → X → List ℕ) (share : Share) (all some : List X) (before of : ℕ) (text : List ℕ)
    → of ≡ length all → before ≡ length all → share_of share all ≡ some
    → text ≡ lines_from (λ n. line (counted n) (counted of)) (before_share share.number share.of before) some
    → text ≡ lines_from (λ n. line (counted n) (counted (length all))) (before_share share.number share.of (length all)) (share_of share all)
lines_of_share line share all some before of text is_of is_before is_share lines = rw is_share (rw (is_of, is_before) at lines)
