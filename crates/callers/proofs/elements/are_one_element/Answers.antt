use Rattle.std.proofs.Common.{◌≡◌, ℕ, Bool, true, false, not, List, [], ◌∷◌, ap, ap₂, refl, subst, sym, arith, ◌∙◌}
use Rattle.std.proofs.lemmas.Bool.{false≢true, not-false}
use Rattle.std.proofs.lemmas.Slice.Eq.{bytes_eq-Decides}
use Rattle.zarrs_chunk_base.specs.Dimension.{Dimension, InBox, IsPlace}
use Rattle.zarrs_chunks.specs.Located.{IsLocated}
use Rattle.std.specs.Str.{bytes_eq}
use Rattle.zarrs_chunks.specs.declared.location.Located.{Located}
use Rattle.callers.proofs.elements.are_one_element.Goals.{then-ne-via-then-ne, then-ne-via-else-ne+then-ne-2}
use Rattle.callers.proofs.elements.are_one_element.Goals as goal

-- an index has one place in a chunk
one_place : (ds : List Dimension) (chunk index place other : List ℕ) → IsPlace ds chunk index place → IsPlace ds chunk index other → place ≡ other
one_place [] [] [] [] [] is is' = refl
one_place (d ∷ ds) (c ∷ chunk) (i ∷ index) (p ∷ place) (q ∷ other) is is' =
    ap₂ (λ n rest. n ∷ rest) (omega (arith, is.0, is'.0)) (one_place ds chunk index place other is.1 is'.1)
one_place (d ∷ ds) (c ∷ chunk) (i ∷ index) (p ∷ place) [] is is' = absurd is'
one_place [] [] [] [] (_ ∷ _) is is' = absurd is'
one_place _ _ _ _ _ is is' = absurd is

-- where a chunk has one key, an index is found under one key and at one place
found_alike : (ds : List Dimension) (IsKey : List ℕ → List ℕ → Type 0) (one other : List ℕ) (found also : Located)
    → ((chunk other_chunk index : List ℕ) → InBox ds chunk index → InBox ds other_chunk index → chunk ≡ other_chunk)
    → ((chunk key other_key : List ℕ) → IsKey chunk key → IsKey chunk other_key → key ≡ other_key)
    → IsLocated ds IsKey one found → IsLocated ds IsKey other also → one ≡ other
    → (found.key ≡ also.key) × (found.element.items ≡ also.element.items)
found_alike ds IsKey one other found also one_chunk one_key is is' same =
    let chunk = one_chunk found.chunk.items also.chunk.items one is.box (subst (InBox ds also.chunk.items) (sym same) is'.box) in
    let place = subst (λ index. IsPlace ds also.chunk.items index also.element.items) (sym same) is'.place in (
      one_key also.chunk.items found.key also.key (subst (λ c. IsKey c found.key) chunk is.key) is'.key,
      one_place ds also.chunk.items one found.element.items also.element.items
          (subst (λ c. IsPlace ds c one found.element.items) chunk is.place) place,
    )

pub returns-clause-same : goal.returns-clause-same
returns-clause-same g c =
    let (_, found) = rw c.in-Some.is at c.in_ok-found.ensures in
    let (_, also) = rw c.in-Some-2.is at c.in_ok-also.ensures in
    let keys = (bytes_eq-Decides _ _).0 (not-false _ (sym c.ne.ensures ∙ c.if-ne.false)) in
    let key = sym c.as_str.ensures.value ∙ keys ∙ c.as_str-2.ensures.value in
    let place = (bytes_eq-Decides _ _).0 (not-false _ (sym c.ne-else-ne.ensures ∙ c.if-ne-2.false)) in
    λ _. c.answers_of_locate_determine_the_index.ensures c.args.one.now c.args.other.now found also key place

pub returns-clause-exact : goal.returns-clause-exact
returns-clause-exact g c one_key =
    let (_, found) = rw c.in-Some.is at c.in_ok-found.ensures in
    (λ is. (returns-clause-same g c is, c.in-Some.found.chunk.items, found.box), λ _. refl)

-- what differs isn't the same
differ : (one other : List ℕ) (b : Bool) → b ≡ not (bytes_eq one other) → b ≡ true → one ≡ other → false ≡ true
differ one other b is differs same = sym (ap not ((bytes_eq-Decides one other).1 same)) ∙ sym is ∙ differs

pub returns-then-ne-clause-exact : goal.returns-then-ne-clause-exact
returns-then-ne-clause-exact g c one_key =
    let (_, found) = rw c.in-Some.is at c.in_ok-found.ensures in
    let (_, also) = rw c.in-Some-2.is at c.in_ok-also.ensures in (
      λ is. absurd (false≢true is),
      λ both.
          let (key, place) = found_alike (g.G.ChunkGridTraits.dimensions c.args.grid.now) (g.E.ChunkKeyEncodingTraits.is_key c.args.encoding.now)
          c.args.one.now c.args.other.now c.in-Some.found c.in-Some-2.also c.chunks_share_no_index.ensures one_key found also both.0 in
          elim c.then-ne.branch as (λ _. false ≡ true) [
            | then-ne-via-then-ne w ↦ differ _ _ _ c.ne.ensures w.if-ne.true (c.as_str.ensures.value ∙ key ∙ sym c.as_str-2.ensures.value)
            | then-ne-via-else-ne+then-ne-2 w ↦ differ _ _ _ w.ne-else-ne.ensures w.if-ne-2.true place
          ],
    )
