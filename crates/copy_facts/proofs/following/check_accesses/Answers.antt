use Rattle.std.proofs.Common.{subst, sym}
use Rattle.std.specs.Prelude.{slice_get, length}
use Rattle.copy_facts.specs.Frames.{IsLeastTo, IsOverNumber, IsRefusedFrame, address_in}
use Rattle.copy_facts.proofs.FrameLemmas.{none_over, over_found, solved_none_lost}
use Rattle.copy_facts.proofs.following.check_accesses.Goals as goal

pub returns-in-None-clause-ok : goal.returns-in-None-clause-ok
returns-in-None-clause-ok c image entry ps a =
    none_over image entry c.args.stack c.args.start ps c.args.sites.now a c.args.facts.now c.requires.solved
    (subst (λ f. IsLeastTo (IsOverNumber c.args.stack c.args.sites.now c.args.facts.now) (λ i. address_in (slice_get c.args.sites.now i))
    (length c.args.sites.now) f) c.in-None.is c.first_over.ensures)

pub returns-in-Some-clause-refused : goal.returns-in-Some-clause-refused
returns-in-Some-clause-refused c image entry ps a =
    subst (IsRefusedFrame image entry c.args.stack) (sym c.over_refusal.ensures) (
      solved_none_lost image entry c.args.stack c.args.start ps c.args.sites.now a _ c.requires.solved,
      over_found image entry c.args.stack c.args.start ps c.args.sites.now a c.args.facts.now c.requires.solved c.in-Some.over
          (subst (λ f. IsLeastTo (IsOverNumber c.args.stack c.args.sites.now c.args.facts.now)
          (λ i. address_in (slice_get c.args.sites.now i)) (length c.args.sites.now) f) c.in-Some.is c.first_over.ensures),
    )
