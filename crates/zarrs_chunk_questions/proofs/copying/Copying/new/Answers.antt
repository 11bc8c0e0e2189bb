use Rattle.std.proofs.Common.{◌∙◌, ap, inl, inr, map, option_map, refl, replicate, unwrap_or, ⊎_elim}
use Rattle.std.specs.Int.NonZero.{non_zero_u64_get}
use Rattle.zarrs_chunk_keys.specs.seen.Encodings.{encoding_in}
use Rattle.zarrs_chunks.specs.seen.Grids.{grid_in, kind_in}
use Rattle.zarrs_chunk_questions.proofs.Refusals.{handed_on}
use Rattle.zarrs_chunk_questions.proofs.copying.Copying.new.Goals as goal

pub returns-in_err-target : goal.returns-in_err-target
returns-in_err-target c =
    let encoding = c.in_ok-encoding in
    handed_on _ _ _ c.from_residual-in_err-target.result c.in_err-target.field-0.0
    (λ fault.
    ⊎_elim (λ of_grid. inr (encoding_in encoding.encoding, encoding.ensures, inl of_grid))
    (λ (made, is, of_encoding). inr (encoding_in encoding.encoding, encoding.ensures, inr (kind_in made, grid_in made, is, inl of_encoding))))
    (rw c.shape_or-sizes.ensures at c.in_err-target.ensures) c.from_residual-in_err-target.ensures.1

pub returns-in_err-region : goal.returns-in_err-region
returns-in_err-region c =
    let encoding = c.in_ok-encoding in
    let target = c.in_ok-target.target in
    let (is_grid, is_encoding) = rw c.shape_or-sizes.ensures at c.in_ok-target.ensures in
    handed_on _ _ _ c.from_residual-in_err-region.result c.in_err-region.field-0.0
    (λ fault no_box. inr (
      encoding_in encoding.encoding,
      encoding.ensures,
      inr (kind_in target.grid, grid_in target.grid, is_grid, inr (encoding_in target.encoding, is_encoding, no_box)),
    ))
    c.in_err-region.ensures c.from_residual-in_err-region.ensures.1

pub returns : goal.returns
returns c =
    let target = c.in_ok-target.target in
    let (is_grid, is_encoding) = rw c.shape_or-sizes.ensures at c.in_ok-target.ensures in
    let (region, is_box) = c.in_ok-region.ensures in
    let at = option_map (λ at. at.items) c.args.asked.at in
    let each = option_map (λ each. map non_zero_u64_get each.items) c.args.asked.task_chunks in
    record {
      same_grid = refl;
      is_encoding = c.in_ok-encoding.ensures;
      target_kind = kind_in target.grid;
      is_target_grid = is_grid;
      is_target_encoding = is_encoding;
      is_box = is_box;
      region = region;
      at = c.in_ok-at.ensures ∙ ap (λ n. unwrap_or at (replicate n 0)) c.dimensionality.ensures;
      order = refl;
      each = c.in_ok-task_chunks.ensures ∙ ap (λ n. unwrap_or each (replicate n 1)) c.dimensionality-2.ensures;
    }
