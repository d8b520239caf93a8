use Rattle.std.proofs.Common.{subst}
use Rattle.std.specs.Prelude.{slice_get, length}
use Rattle.copy_facts.specs.Frames.{IsLeastTo, IsUnprovedNumber, address_in}
use Rattle.copy_facts.proofs.FrameLemmas.{solved_none_lost}
use Rattle.copy_facts.proofs.ReturnLemmas.{none_unproved, unproved_found}
use Rattle.copy_facts.proofs.following.check_returns.Goals as goal

pub returns-in-None-clause-ok : goal.returns-in-None-clause-ok
returns-in-None-clause-ok c image entry ps a =
    none_unproved image entry c.args.stack c.args.start ps c.args.sites.now a c.args.facts.now c.requires.frames.solved
    (subst (λ f. IsLeastTo (IsUnprovedNumber c.args.sites.now c.args.facts.now) (λ i. address_in (slice_get c.args.sites.now i))
    (length c.args.sites.now) f) c.in-None.is c.first_unproved.ensures)

pub returns-in-Some-clause-refused : goal.returns-in-Some-clause-refused
returns-in-Some-clause-refused c image entry ps a = (
  solved_none_lost image entry c.args.stack c.args.start ps c.args.sites.now a _ c.requires.frames.solved,
  c.requires.none image entry ps a,
  unproved_found image entry c.args.stack c.args.start ps c.args.sites.now a c.args.facts.now c.requires.frames.solved c.in-Some.found
      (subst (λ f. IsLeastTo (IsUnprovedNumber c.args.sites.now c.args.facts.now) (λ i. address_in (slice_get c.args.sites.now i))
      (length c.args.sites.now) f) c.in-Some.is c.first_unproved.ensures),
)
