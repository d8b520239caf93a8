use Rattle.std.proofs.Common.{◌/◌, ◌*◌, ◌<◌, refl}
use Rattle.farkas.proofs.Fractions.{whole_parts, rests, no_rest, rest_alone, lt_iff, never}
use Rattle.farkas.proofs.placing.+is_less_natural.Goals as goal

pub returns-then-a-m : goal.returns-then-a-m
returns-then-a-m t c =
    let e = whole_parts c.args.a c.args.m c.args.b c.args.n c.requires.first c.requires.second c.if-a-m.true in
    let f = lt_iff (c.args.a / c.args.m) (c.args.b / c.args.n) in
    (λ h. e.0 (f.0 h), λ h. f.1 (e.1 h))

pub returns-then-s-eq0 : goal.returns-then-s-eq0
returns-then-s-eq0 t c = never (c.args.a * c.args.n < c.args.b * c.args.m) (no_rest c.args.a c.args.m c.args.b c.args.n c.if-a-m.false c.if-s-eq0.true)

pub returns-then-r-eq0 : goal.returns-then-r-eq0
returns-then-r-eq0 t c =
    (λ h. rest_alone c.args.a c.args.m c.args.b c.args.n c.requires.first c.if-a-m.false c.if-r-eq0.true c.if-s-eq0.false, λ h. refl)

pub returns : goal.returns
returns t c =
    let e = rests c.args.a c.args.m c.args.b c.args.n c.if-a-m.false in
    (λ h. e.0 (c.is_less_natural.ensures.0 h), λ h. c.is_less_natural.ensures.1 (e.1 h))
