use Rattle.std.proofs.Common.{◌≡◌, ◌+◌, ◌*◌, ◌/◌, length, refl, arith, rules}
use Rattle.chacha20_stream.proofs.Turns.{filled_none, filled_more, filled_all, words_of, filled_last}
use Rattle.chacha20_stream.proofs.stream.Goals as goal

pub loop-turn-init : goal.loop-turn-init
loop-turn-init c = (filled_none _ _ _, search rules, search rules)

pub loop-turn-preserved : goal.loop-turn-preserved
loop-turn-preserved c =
    let inv = c.loop-turn.invariant in
    let on : 128 * c.loop-turn.turn + 128 ≡ 128 * (c.loop-turn.turn + 1) = omega arith in (
      rw on at (filled_more 8 _ _ _ _ _ _ _ _ _ inv.1 inv.2 inv.0 (omega (arith, c, inv.0.long))
          c.next_blocks.ensures c.put_lanes.ensures c.put_lanes.auto.out c.add-n.ensures),
      inv.1,
      inv.2,
    )

pub returns-then-at-out : goal.returns-then-at-out
returns-then-at-out c = filled_all _ _ _ _ _ _ c.loop-turn.invariant.0 (omega arith)

pub returns-then-out-at-le64 : goal.returns-then-out-at-le64
returns-then-out-at-le64 c =
    let all : 128 * c.loop-turn.turn ≡ 128 * (length c.args.out.now / 128) = omega arith in
    filled_last 4 _ _ _ _ _ _ _ _ (rw all at c.loop-turn.invariant.0) (omega (arith, c))
    c.four_blocks-k.ensures c.put_part.ensures

pub returns : goal.returns
returns c =
    let inv = c.loop-turn.invariant in
    let all : 128 * c.loop-turn.turn ≡ 128 * (length c.args.out.now / 128) = omega arith in
    filled_last 8 _ _ _ _ _ _ _ _ (rw all at inv.0) (omega (arith, c))
    (words_of 8 _ _ _ _ _ _ inv.1 inv.2 c.next_blocks-2.ensures refl c.put_lanes-2.ensures)
    c.put_part-2.ensures
