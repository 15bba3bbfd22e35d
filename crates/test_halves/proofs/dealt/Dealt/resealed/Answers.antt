use Rattle.test_halves.proofs.Laws.{opened_laid}
use native.Mathlib.Omega.{arith}
use mathlib.Core.Path.{refl}
use Rattle.test_halves.proofs.dealt.Dealt.resealed.Goals as goal

pub lay_out-plain-requires : goal.lay_out-plain-requires
lay_out-plain-requires c =
    let laid = opened_laid _ _ _ _ _ _ c.in_ok-set.ensures refl in record {
      party_bound = (omega arith, laid.0, laid.1);
      flag_bytes = laid.2;
      mark_bound = laid.3;
    }
