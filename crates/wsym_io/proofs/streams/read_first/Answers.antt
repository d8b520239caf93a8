use Rattle.std.proofs.Common.{rules, arith, sym, subst, ap, ◌∙◌, ℕ, ◌≡◌, ◌≤◌, length, take, Vec, Global}
use Rattle.wsym_io.specs.Io.{IfTold}
use Rattle.wsym_io.proofs.Giving.{none_given, first_when_full, first_at_end, still_long}
use Rattle.wsym_io.proofs.streams.read_first.Goals as goal
use Rattle.wsym_io.proofs.streams.read_first.Goals.{else-loop-room-test, then-loop-room-test+in_ok-count+then-count-eq0}

pub loop-room-init : goal.loop-room-init
loop-room-init g c = record {
  room = omega (arith, ap length c.new-bytes.ensures.items);
  block = (search rules);
  given = none_given (g.R.Read.remaining c.args.reader.now) c.new-bytes.result.items c.new-bytes.ensures.items;
}

pub loop-room-preserved : goal.loop-room-preserved
loop-room-preserved g c = record {
  room = omega (arith, c.loop-room.invariant.room, c.in_ok-count.ensures.longer, c.in_ok-count.ensures.within);
  block = still_long c.loop-room.block.items c.read_more.new.block c.loop-room.block.len (c.in_ok-count.ensures.size ∙ ap length c.deref_mut.ensures.value) c.loop-room.block.ok.0 c.loop-room.invariant.block;
  given = c.in_ok-count.ensures.given (g.R.Read.remaining c.args.reader.now) c.loop-room.invariant.given;
}

pub returns-clause-short : goal.returns-clause-short
returns-clause-short g c =
    elim c.loop-room-test.branch [
      | else-loop-room-test w ↦
          subst (λ (v : Vec ℕ Global). length v.items ≤ c.args.most) (sym w.bytes-is) (omega (arith, c.loop-room.invariant.room))
      | then-loop-room-test+in_ok-count+then-count-eq0 w ↦
          subst (λ (v : Vec ℕ Global). length v.items ≤ c.args.most) (sym w.bytes-is)
          (omega (arith, c.loop-room.invariant.room, w.in_ok-count.ensures.longer, w.in_ok-count.ensures.within))
    ]

pub returns-clause-first : goal.returns-clause-first
returns-clause-first g c =
    let before = g.R.Read.remaining c.args.reader.now in
    elim c.loop-room-test.branch [
      | else-loop-room-test w ↦
          subst (λ (v : Vec ℕ Global). IfTold before (λ given. v.items ≡ take c.args.most given)) (sym w.bytes-is)
          (first_when_full before (g.R.Read.remaining c.loop-room.reader) c.loop-room.bytes.items c.args.most c.loop-room.invariant.given
          (omega (arith, c.loop-room.invariant.room, w.loop-room-test.false)))
      | then-loop-room-test+in_ok-count+then-count-eq0 w ↦
          subst (λ (v : Vec ℕ Global). IfTold before (λ given. v.items ≡ take c.args.most given)) (sym w.bytes-is)
          (first_at_end before (g.R.Read.remaining w.read_more.new.reader) w.read_more.new.bytes.items c.args.most
          (w.in_ok-count.ensures.given before c.loop-room.invariant.given) (w.in_ok-count.ensures.end w.if-count-eq0.true)
          (omega (arith, c.loop-room.invariant.room, w.in_ok-count.ensures.longer, w.in_ok-count.ensures.within)))
    ]
