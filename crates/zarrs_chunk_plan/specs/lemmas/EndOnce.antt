-- That an end is below a shape is a fact: it has no more than one value.
use Rattle.std.specs.Prelude.{◌≡◌, ℕ, List, Option, Some}
use Rattle.std.specs.Option.{ForSome}
use Rattle.smallvec.specs.SmallVec.{SmallVec}
use Rattle.zarrs_chunk_axes.specs.InBounds.{AreBelow}
use Rattle.zarrs_chunk_axes.specs.lemmas.BelowOnce.{are_below_if_once}

pub end_below_once : (shape : List ℕ) (end : Option (SmallVec ℕ)) → IsProp (ForSome end (λ e. AreBelow shape e.items))
end_below_once shape end = hlevel (λ (e : SmallVec ℕ). are_below_if_once {P = end ≡ Some e} shape e.items)
