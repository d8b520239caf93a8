use Rattle.std.proofs.Common.{ℕ}
use Rattle.elf32_image.specs.Parts.{ImageValue}
use Rattle.wcet_core.proofs.AgreementLemmas.{Laws, none, one}
use Rattle.wcet_core.proofs.laws.analyses_agree.Goals as goal

pub returns-clause-none : goal.returns-clause-none
returns-clause-none c = λ image t entry stack params r why is refused.
    none image t entry stack (record {
      one_graph = λ g h. c.graphs_agree.ensures.one image entry g h;
      no_graph = λ g r. c.graphs_agree.ensures.none image entry g r;
      one_refusal = λ r s. c.graphs_agree.ensures.refusal image entry r s;
      bounded = λ g. c.graphs_are_flows.ensures.bounded image entry g;
      reached = λ g. c.graphs_are_flows.ensures.reached image entry g;
      one_nest = c.nests_agree.ensures;
      not_refused = c.nests_are_not_refused.ensures;
      one_state = c.reduction_ends.ensures.one;
      uses = c.uses_agree.ensures;
      one_tree = c.levels_have_one_tree.ensures;
    }) params r why is refused

pub returns-clause-one : goal.returns-clause-one
returns-clause-one c = λ image t entry stack why other is is2 free free2.
    one image t entry stack (record {
      one_graph = λ g h. c.graphs_agree.ensures.one image entry g h;
      no_graph = λ g r. c.graphs_agree.ensures.none image entry g r;
      one_refusal = λ r s. c.graphs_agree.ensures.refusal image entry r s;
      bounded = λ g. c.graphs_are_flows.ensures.bounded image entry g;
      reached = λ g. c.graphs_are_flows.ensures.reached image entry g;
      one_nest = c.nests_agree.ensures;
      not_refused = c.nests_are_not_refused.ensures;
      one_state = c.reduction_ends.ensures.one;
      uses = c.uses_agree.ensures;
      one_tree = c.levels_have_one_tree.ensures;
    }) why other is is2 free free2
