use mathlib.Core.Path.{refl, sym, ◌∙◌}
use native.Mathlib.Omega.{arith}
use Rattle.chacha20_stream.proofs.Turns.{xored_none, bytes_of_lem, xored_more, xored_all, xored_last}
use Rattle.std.proofs.Common.{rules}
use Rattle.chacha20_stream.proofs.xor.Goals as goal

pub loop-at-init : goal.loop-at-init
loop-at-init c = (xored_none _ _ _ _ (search rules), refl, search rules, search rules, omega arith)

pub slice_bounds-store_lanes-end : goal.slice_bounds-store_lanes-end
slice_bounds-store_lanes-end c = sym c.loop-at.invariant.1

pub store_lanes-requires : goal.store_lanes-requires
store_lanes-requires c =
    c.loop-at.invariant.1

pub slice_bounds-xor_part-end : goal.slice_bounds-xor_part-end
slice_bounds-xor_part-end c =
    sym (c.store_lanes.auto.b ∙ c.loop-at.invariant.1)

pub loop-at-preserved : goal.loop-at-preserved
loop-at-preserved c = (
  xored_more 8 _ _ _ _ _ _ _ _ _ _ c.loop-at.invariant.0 (omega (arith, c))
      (bytes_of_lem 8 _ _ _ _ _ c.loop-at.invariant.2 c.loop-at.invariant.3 c.next_blocks.ensures
      c.store_lanes.ensures) c.xor_part.ensures c.xor_part.auto.bytes c.add-n.ensures,
  c.store_lanes.auto.b ∙ c.loop-at.invariant.1,
  c.loop-at.invariant.2,
  c.loop-at.invariant.3,
  omega (arith, c, c.loop-at.invariant.0.long),
)

pub returns-then-at-bytes : goal.returns-then-at-bytes
returns-then-at-bytes c =
    xored_last 4 _ _ _ _ _ _ _ _ _ _ _ c.loop-at.invariant.0 c.if-at-bytes.true
    (omega (arith, c)) c.four_blocks-k.ensures refl
    c.store_all.ensures c.xor_part-then-at-bytes.ensures c.xor_part-then-at-bytes.auto.bytes

pub returns-else-at-bytes : goal.returns-else-at-bytes
returns-else-at-bytes c = xored_all _ _ _ _ _ _ _ c.loop-at.invariant.0 (omega (arith, c.if-at-bytes.false))
