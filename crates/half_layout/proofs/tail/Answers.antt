use mathlib.Core.Path.{refl}
use Prim.Native.Nat.{ℕ}
use lib.ListN.{length-replicate}
use Rattle.base_words.specs.List.{over}
use Rattle.std.proofs.Common.{rules}
use Rattle.half_layout.proofs.Stored.{tail_law}
use Rattle.half_layout.proofs.tail.Goals as goal

pub returns : goal.returns
unfolding over
returns c =
    tail_law _ _ _ _ _ c.args.s.now.seed _ _ _ _ _ _ _ _ _ (search rules) c.store_corrections.ensures.cs_len
    (length-replicate {A = ℕ} 1233 0) c.store.ensures c.store-2.ensures c.store_all.ensures
    c.store_corrections.ensures.out_after c.store-3.ensures c.store-4.ensures refl
