use Rattle.std.proofs.Common.{rules, ℕ, sym, subst, ◌∙◌, ◌<◌}
use Rattle.line_uses.proofs.OrderLemmas.{flag_inside, peers_of}
use Rattle.line_uses.proofs.ScopeLemmas.{no_use_set, one_set}
use Rattle.line_uses.proofs.scopes.set_scope.Goals as goal

pub scope_of-requires-clause-all : goal.scope_of-requires-clause-all
scope_of-requires-clause-all c =
    peers_of c.args.sets c.args.tables.now c.args.by_set.now c.args.point c.line.result c.row_of-peers.result.now c.line.ensures
    c.row_of-peers.ensures c.requires.all

pub scope_of-requires-clause-inside : goal.scope_of-requires-clause-inside
scope_of-requires-clause-inside c =
    subst (λ (n : ℕ). c.args.point < n) c.requires.flags (flag_inside c.args.flags.now c.args.point (search rules))

pub returns-in_ok-scope-clause-ok : goal.returns-in_ok-scope-clause-ok
returns-in_ok-scope-clause-ok c = λ maps due left all are.
    one_set c.args.sets c.args.ways c.args.tables.now due left c.args.scopes.now.items c.args.point c.in_ok-scope.scope
    (subst (λ (n : ℕ). c.args.point < n) (c.requires.flags ∙ sym c.requires.size)
    (flag_inside c.args.flags.now c.args.point (search rules)))
    (c.in_ok-scope.ensures.scope maps) are

pub returns-else-flag_of-clause-ok : goal.returns-else-flag_of-clause-ok
returns-else-flag_of-clause-ok c = λ maps due left all are.
    no_use_set c.args.sets c.args.ways c.args.tables.now c.args.flags.now due left c.args.scopes.now.items c.args.point (search rules) all
    are
