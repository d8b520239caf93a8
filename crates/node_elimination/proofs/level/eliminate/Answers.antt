use Rattle.std.proofs.Common.{inl}
use Rattle.node_elimination.proofs.FinishedLevelLemmas.{if_ok_more, past, planned}
use Rattle.node_elimination.proofs.StageStateLemmas.{other_ok}
use Rattle.node_elimination.proofs.level.eliminate.Goals as goal

pub returns-clause-planned : goal.returns-clause-planned
returns-clause-planned c =
    if_ok_more _ _ (λ p f k rank h given from to.
    let d = c.in-Ok-take_out_all.ensures.done k rank h (c.in-Ok.ensures k rank h given) in
    planned k _ _ p f d (c.in-Ok-measures.ensures k d.0 d.1 d.2 from to)) c.finish.result c.finish.ensures.planned

pub returns-in-Err-clause-large : goal.returns-in-Err-clause-large
returns-in-Err-clause-large c e k rank h given f t =
    inl (c.in-Err.ensures.large (other_ok _ _ e) k rank h (c.in-Ok.ensures k rank h given))

pub returns-clause-large : goal.returns-clause-large
returns-clause-large c e k rank h given f t =
    let d = c.in-Ok-take_out_all.ensures.done k rank h (c.in-Ok.ensures k rank h given) in
    past k _ (c.finish.ensures.large e) (c.in-Ok-measures.ensures k d.0 d.1 d.2 f t)
