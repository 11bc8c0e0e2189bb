use Rattle.programs.proofs.chunkplan.Common.{◌≡◌, ◌∙◌, ◌++◌, ◌∷◌, [], ap, arith, codes, inl, inr, length, map, take, flag_text, ⊎_elim, AllZip-long}
use Rattle.programs.proofs.chunkplan.Common.{take_all}
use Rattle.std.proofs.lemmas.List.{length-map, length-take-le}
use Rattle.std.proofs.lemmas.Result.{err_from_is_err_and}
use Rattle.std.proofs.lemmas.Slice.Zip.{all_zipped_more}
use Rattle.programs.specs.chunkplan.CountsLine.{IsCountedStage}
use Rattle.programs.specs.chunkplan.seen.Routes.{stage_of}
use Rattle.programs.proofs.chunkplan.Appended.{one_more_listed}
use Rattle.programs.proofs.chunkplan.RouteLists.{contained_mapped, one_more_taken}
use Rattle.programs.proofs.chunkplan.counting.stages_line.Goals as goal

pub loop-number-preserved : goal.loop-number-preserved
loop-number-preserved c =
    let (objects, are, is) = c.loop-number.invariant in
    let (object, counted, appended) = c.in_ok-append_stage.ensures in
    let k = c.loop-number.number in
    let stages = c.args.stages.now in
    let stage = c.index-stages-number.result in
    let within = c.loop-number-test.true in
    let as_many : length objects ≡ k =
    AllZip-long IsCountedStage (map stage_of (take k stages)) objects are ∙ length-map (take k stages) stage_of
    ∙ length-take-le k stages (omega (arith, within)) in (
      objects ++ object ∷ [],
      rw (one_more_taken stage_of stages k stage within c.index-stages-number.is)
          (all_zipped_more IsCountedStage (map stage_of (take k stages)) objects (stage_of stage) object are counted),
      one_more_listed ((codes "{\"exact\":" ++ flag_text c.args.is_exact) ++ codes ",\"stages\":[") _ _ _ object objects k is c.in_ok-append_comma.ensures
          appended as_many,
    )

pub returns-in_err-append_stage : goal.returns-in_err-append_stage
returns-in_err-append_stage c =
    let p = err_from_is_err_and c.from_residual-in_err-append_stage.result c.from_residual-in_err-append_stage.ensures.1 in
    let stage = c.index-stages-number.result in
    rw (p.1, p.2)
    (⊎_elim inl
    (λ is. inr (stage_of stage, contained_mapped stage_of c.args.stages.now c.loop-number.number stage c.loop-number-test.true c.index-stages-number.is, is))
    c.in_err-append_stage.ensures)

pub returns : goal.returns
returns c =
    let (objects, are, is) = c.loop-number.invariant in
    let stages = c.args.stages.now in
    let all : map stage_of (take c.loop-number.number stages) ≡ map stage_of stages =
    ap (map stage_of) (take_all c.loop-number.number stages (omega (arith, c.loop-number-test.false))) in
    record {
      objects = objects;
      are_objects = rw all at are;
      is = c.in_ok-extend_from_slice-3.ensures.items ∙ ap (λ l. l ++ codes "]}\n") is;
    }
