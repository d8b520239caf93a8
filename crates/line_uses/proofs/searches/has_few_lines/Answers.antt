use Rattle.std.proofs.Common.{rules, ℕ, List, refl, sym, subst}
use Rattle.line_uses.proofs.FewLemmas.{AreNoted, all_noted, few_noted, none_noted, note_at}
use Rattle.line_uses.proofs.searches.has_few_lines.Goals as goal

pub loop-point-init : goal.loop-point-init
loop-point-init c =
    record {
      noted = subst (λ (ms : List ℕ). AreNoted c.args.tables.now c.args.number c.args.line c.args.peers.now ms c.args.peers.now)
          (sym c.new-found.ensures)
          (none_noted c.args.tables.now c.args.number c.args.line c.args.peers.now);
      few = search rules;
    }

pub loop-point-preserved : goal.loop-point-preserved
loop-point-preserved c =
    record {
      noted = note_at c.args.tables.now c.args.number c.args.line c.loop-point.point-index c.args.peers.now c.args.peers.now
          c.loop-point.found c.note_line.new.found refl (search rules) c.loop-point.invariant.noted c.in_ok-note_line.ensures;
      few = search rules;
    }

pub returns : goal.returns
returns c = λ sets p is_line all found.
    few_noted c.args.tables.now c.args.number c.args.line c.args.ways c.args.peers.now c.loop-point.found
    (all_noted c.args.tables.now c.args.number c.args.line c.loop-point.point-index c.args.peers.now c.args.peers.now c.loop-point.found
    refl
    (search rules) c.loop-point.invariant.noted)
    c.loop-point.invariant.few sets p is_line all
