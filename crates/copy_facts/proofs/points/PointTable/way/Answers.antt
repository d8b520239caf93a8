use Rattle.std.proofs.Common.{length, refl}
use Rattle.copy_facts.proofs.EntryLemmas.{got}
use Rattle.copy_facts.proofs.MergeLemmas.{no_way}
use Rattle.copy_facts.proofs.points.PointTable.way.Goals as goal

pub returns-in-Some-clause-inside : goal.returns-in-Some-clause-inside
returns-in-Some-clause-inside c =
    let items = c.args.self.now.sites.now in
    c.way_at.ensures.inside (length items) c.in-Some.site.now refl
    (c.requires.inside c.args.point c.in-Some.site.now
    (got items c.args.point c.in-Some.site.now c.in-Some.ensures.lookup.3.0 c.in-Some.ensures.lookup.1))

pub returns-in-None-clause-way : goal.returns-in-None-clause-way
returns-in-None-clause-way c = no_way
    (length c.args.self.now.sites.now) c.args.point c.args.way c.args.self.now.sites.now _ c.in-None.ensures.lookup.3 c.requires.within
