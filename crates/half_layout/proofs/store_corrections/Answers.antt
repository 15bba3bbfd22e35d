use mathlib.Core.Path.{◌≡◌, refl, sym, ap, ◌∙◌}
use mathlib.Core.List.{map}
use Prim.Native.Nat.{◌*◌}
use native.Mathlib.Omega.{arith}
use lib.ListN.{length}
use Rattle.base_words.specs.List.{over, flat}
use Rattle.half_content.specs.Content.{correction_bytes}
use Rattle.half_layout.proofs.Stored.{flag_at, front, front_next, front_all}
use Rattle.std.proofs.Common.{rules}
use Rattle.half_layout.proofs.store_corrections.Goals as goal

pub loop-i-init : goal.loop-i-init
unfolding over flat
loop-i-init c = (refl, refl)

pub correction_bytes-b-requires : goal.correction_bytes-b-requires
correction_bytes-b-requires c = flag_at _ _ c.requires.flag_bytes (search rules)

pub loop-i-preserved : goal.loop-i-preserved
loop-i-preserved c =
    let more = front_next c.args.cs.now c.loop-i.i _ _ _ _ _ (search rules) c.loop-i.invariant.0
    c.loop-i.invariant.1 (search rules) c.correction_bytes-b.ensures c.copy.ensures in
    (more.1, more.0)

pub returns : goal.returns
returns c =
    let cs = c.args.cs.now in
    let last : c.loop-i.i ≡ 32 = omega arith in
    let all : front cs c.loop-i.i ≡ flat (map correction_bytes cs) =
    ap (front cs) last ∙ front_all cs 32 (search rules) in
    record {
      out_after = c.loop-i.invariant.1 ∙ ap (λ l. over c.args.at l c.args.out.now) all;
      cs_len = ap length (sym all) ∙ c.loop-i.invariant.0 ∙ ap (λ k. 37 * k) last;
    }
