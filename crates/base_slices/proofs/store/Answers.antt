use Rattle.std.proofs.Common.{◌∙◌}
use native.Mathlib.Omega.{arith}
use Rattle.base_words.specs.Bytes.{le32}
use Rattle.base_slices.proofs.Put.{put_over}
use Rattle.base_slices.proofs.store.Goals as goal

pub returns : goal.returns
unfolding le32
returns c =
    put_over c.args.at _ c.args.out.now _ _ (c.copy_from_slice.ensures.after ∙ c.to_le_bytes.ensures) (omega arith)
    (omega arith)
