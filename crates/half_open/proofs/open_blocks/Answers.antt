use Rattle.half_content.specs.Content.{block_bytes, text_bytes}
use Rattle.half_seal.specs.Half.{first_fit, opened_blocks}
use Rattle.base_words.specs.List.{over}
use native.Mathlib.Omega.{arith}
use Prim.Native.Nat.{◌+◌, ◌*◌, ◌-◌}
use mathlib.Core.Path.{◌≡◌, refl, ◌∙◌}
use Rattle.half_open.proofs.Laws.{fit_more, opened_more, opened_all}
use Rattle.std.proofs.Common.{rules}
use Rattle.half_open.proofs.open_blocks.Goals as goal

pub loop-i-init : goal.loop-i-init
unfolding over first_fit opened_blocks
loop-i-init c = (refl, λ _. refl)

pub open_block-this-requires : goal.open_block-this-requires
open_block-this-requires c =
    record {
      b_len = search rules;
      once_value = c.key_at-once.ensures ∙ c.one_time_keys-keys.ensures c.loop-i.i (omega arith);
    }

pub loop-i-preserved : goal.loop-i-preserved
loop-i-preserved c =
    let key = c.args.key.now in
    let h = c.args.h.now in
    let i = c.loop-i.i in
    let block = c.open_block-this in
    let text = block.new.out in (
      fit_more key h c.args.out.now c.loop-i.out text c.args.number i
          (block_bytes * i + block_bytes - block_bytes * i) (text_bytes * i + text_bytes - text_bytes * i)
          c.loop-i.fit block.result c.requires.3 (omega arith) c.loop-i.invariant.0
          block.ensures.value,
      opened_more key h c.args.out.now c.loop-i.out text c.args.number i
          (block_bytes * i + block_bytes - block_bytes * i) (text_bytes * i + text_bytes - text_bytes * i)
          c.loop-i.fit block.result c.requires.3 (omega arith) (omega arith) (omega arith) (omega arith)
          (search rules) c.loop-i.invariant.1 block.ensures.out_after,
    )

pub returns : goal.returns
returns c =
    let done : c.loop-i.i ≡ c.args.count = omega arith in
    record {
      value = rw done at c.loop-i.invariant.0;
      out_after = λ t. opened_all _ _ _ _ _ c.requires.1 c.requires.2 (rw done at (c.loop-i.invariant.1 t));
    }
