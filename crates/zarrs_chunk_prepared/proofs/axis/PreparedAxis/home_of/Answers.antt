use Rattle.std.proofs.Common.{◌≡◌, ◌-◌, ◌+◌, ◌%◌, arith, get_or, subst}
use Rattle.zarrs_chunk_division.specs.Division.{IsDivision}
use Rattle.zarrs_chunk_prepared.specs.seen.Axis.{table_of}
use Rattle.zarrs_chunk_prepared.proofs.Tables.{home_in_run, only_one}
use Rattle.zarrs_chunk_prepared.proofs.axis.PreparedAxis.home_of.Goals as goal

pub returns-in-Some : goal.returns-in-Some
returns-in-Some c d is within =
    let t = table_of c.args.self.now in
    let some = c.requires in
    let (one, divides) = c.args.self.now.divides c.in-Some.divisor c.in-Some.is in
    let start = is.first_start some in
    let chunk = is.first_chunk some in
    let quotient = c.div_rem.result.0 in
    let place = c.div_rem.result.1 in
    let same : c.args.index ≡ c.args.index - get_or t.starts 0 0 = omega (arith, start) in
    let division : IsDivision (c.args.index - get_or t.starts 0 0) (get_or t.edges 0 0) quotient place =
    subst (λ n. IsDivision n (get_or t.edges 0 0) quotient place) same
    (subst (λ edge. IsDivision c.args.index edge quotient place) divides c.div_rem.ensures) in
    let (lies, _) = home_in_run d t is c.args.index 0 quotient place within (only_one t.starts c.args.index one start) division in
    let first : get_or t.chunks 0 0 + quotient ≡ quotient = omega (arith, chunk) in
    rw first at lies

pub returns : goal.returns
returns c d is within =
    let t = table_of c.args.self.now in
    let run = c.last_up_to-run.result in
    let some = c.last_up_to-run.ensures.within in
    let start = is.first_start c.requires in
    let found = c.last_up_to-run.ensures.last is.starts_rise (omega (arith, start)) in
    let division = c.quotient_and_rest-chunks.ensures (is.some run some) in
    let quotient = c.quotient_and_rest-chunks.result.0 in
    let place = c.quotient_and_rest-chunks.result.1 in
    let (lies, low) = home_in_run d t is c.args.index run quotient place within found
    (subst (λ n. IsDivision n (get_or t.edges run 0) quotient place) c.saturating_sub-rest.ensures division) in
    let fits = c.ranges.index.fits in
    let same : get_or t.chunks run 0 + quotient ≡ (get_or t.chunks run 0 + quotient) % 18446744073709551616 = omega arith in
    rw same at lies
