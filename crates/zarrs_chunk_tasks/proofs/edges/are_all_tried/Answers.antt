use Rattle.std.proofs.Common.{arith, refl, sym}
use Rattle.std.proofs.lemmas.Bool.{le-leb, leb-true, true≢false}
use Rattle.zarrs_chunk_tasks.proofs.edges.are_all_tried.Goals as goal

pub returns-then-not-are_few-clause-few : goal.returns-then-not-are_few-clause-few
returns-then-not-are_few-clause-few c = λ is. absurd (true≢false (sym is))

pub returns-then-not-are_few-clause-few_shapes : goal.returns-then-not-are_few-clause-few_shapes
returns-then-not-are_few-clause-few_shapes c = λ is. absurd (true≢false (sym is))

pub returns-then-not-are_few-clause-all : goal.returns-then-not-are_few-clause-all
returns-then-not-are_few-clause-all c = λ few _. absurd (true≢false (sym ((c.if-not-are_few.ensures {u = tt}).1 few)))

pub returns-clause-few : goal.returns-clause-few
returns-clause-few c = λ _. (c.if-not-are_few.ensures {u = tt}).0 refl

pub returns-clause-few_shapes : goal.returns-clause-few_shapes
returns-clause-few_shapes c = λ is. let up_to = leb-true c.choices_of.result 131072 is in omega (arith, c.choices_of.ensures, up_to)

pub returns-clause-all : goal.returns-clause-all
returns-clause-all c = λ _ up_to. le-leb c.choices_of.result 131072 (omega (arith, c.choices_of.ensures, up_to))
