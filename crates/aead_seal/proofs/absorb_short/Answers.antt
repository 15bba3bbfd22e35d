use mathlib.Core.Path.{refl}
use Rattle.aead_seal.proofs.Runs.{run_length, run_law}
use Rattle.std.proofs.Common.{rules}
use Rattle.aead_seal.proofs.absorb_short.Goals as goal

pub slice_bounds-absorb_padded-end : goal.slice_bounds-absorb_padded-end
slice_bounds-absorb_padded-end c =
    run_length c.args.text.now c.args.both.now _ _ _ c.requires (search rules) refl c.copy.ensures c.copy-2.ensures

pub returns : goal.returns
returns c =
    run_law c.args.text.now c.args.both.now _ _ _ c.requires (search rules) refl c.copy.ensures c.copy-2.ensures
    _ _ c.absorb_padded.ensures
