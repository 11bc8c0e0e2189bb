use Rattle.zarrs_chunk_plan.proofs.Common.{inl, refl, true}
use Rattle.zarrs_chunk_plan.proofs.resize.ResizeLaws.{change_keys_differ, has_one, is_asked, one_what}
use Rattle.zarrs_chunk_plan.proofs.laws.each_chunk_has_one_change.Goals as goal

pub returns-clause-one : goal.returns-clause-one
returns-clause-one g c = λ include_unchanged changes plan. has_one _ _ _ include_unchanged changes plan

pub returns-clause-all : goal.returns-clause-all
returns-clause-all g c = λ changes plan chunk used. has_one _ _ _ true changes plan chunk (record { used = used; wanted = inl refl })

pub returns-clause-nothing_else : goal.returns-clause-nothing_else
returns-clause-nothing_else g c = λ include_unchanged changes plan. is_asked _ _ _ include_unchanged changes plan

pub returns-clause-one_key : goal.returns-clause-one_key
returns-clause-one_key g c = λ same include_unchanged changes plan.
    let sizes = rw c.array_shape.ensures at c.all_fit.ensures in
    let next_sizes = rw c.array_shape-2.ensures at c.all_fit-2.ensures in
    change_keys_differ _ _ _ include_unchanged changes plan (g.met.G.ChunkGridTraits.chained c.args.before.now)
    (g.met.H.ChunkGridTraits.chained c.args.after.now) sizes next_sizes same (g.met.E.ChunkKeyEncodingTraits.exact c.args.encoding.now)

pub returns-clause-no_other : goal.returns-clause-no_other
returns-clause-no_other g c = λ chunk. one_what _ _ chunk
