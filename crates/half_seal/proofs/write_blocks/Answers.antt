use Rattle.half_content.specs.Content.{block_bytes, text_bytes}
use Rattle.half_seal.specs.Half.{first_blocks}
use Rattle.base_words.specs.List.{over}
use native.Mathlib.Omega.{arith}
use Prim.Native.Nat.{◌+◌, ◌*◌, ◌-◌}
use mathlib.Core.Path.{◌≡◌, refl, ◌∙◌}
use Rattle.half_seal.proofs.Laws.{blocks_more}
use Rattle.std.proofs.Common.{rules}
use Rattle.half_seal.proofs.write_blocks.Goals as goal

pub loop-i-init : goal.loop-i-init
unfolding over first_blocks
loop-i-init c = refl

pub write_block-requires : goal.write_block-requires
write_block-requires c =
    record {
      text_len = search rules;
      once_value = c.key_at-once.ensures ∙ c.one_time_keys-keys.ensures c.loop-i.i (omega arith);
    }

pub loop-i-preserved : goal.loop-i-preserved
loop-i-preserved c =
    let args = c.args in
    let i = c.loop-i.i in
    blocks_more args.key.now args.p.now args.out.now c.loop-i.out
    c.write_block.new.out args.number i (text_bytes * i + text_bytes - text_bytes * i)
    (block_bytes * i + block_bytes - block_bytes * i) (omega arith) (omega arith) (omega arith) (omega arith)
    (omega arith) c.loop-i.invariant c.write_block.ensures

pub returns : goal.returns
returns c =
    let done : c.loop-i.i ≡ c.args.count = omega arith in
    rw done at c.loop-i.invariant
