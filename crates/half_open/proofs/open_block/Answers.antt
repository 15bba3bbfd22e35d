use mathlib.Core.Path.{sym, ap, ◌∙◌}
use mathlib.Core.Bool.{not, true≢false}
use Rattle.aead_one_time.proofs.Laws.{same_words}
use Rattle.half_open.proofs.Laws.{not_headed, block_fits_lem}
use Rattle.std.proofs.Common.{rules}
use Rattle.half_open.proofs.open_block.Goals as goal

pub returns-then-not-is_headed : goal.returns-then-not-is_headed
returns-then-not-is_headed c =
    let args = c.args in
    record {
      value = not_headed args.key.now args.b.now args.number args.i c.requires.b_len.0
          c.is_headed.result c.is_headed.ensures.value (ap not c.if-not-is_headed.true);
      out_after = λ e. absurd (true≢false (sym e));
    }

pub open_text-requires : goal.open_text-requires
open_text-requires c =
    let headed = c.is_headed.ensures.b_value c.if-not-is_headed.false in
    record { b_len = search rules; once_value = c.requires.once_value ∙ sym (same_words c.args.key.now _ _ headed) }

pub returns : goal.returns
returns c =
    let args = c.args in
    record {
      value = block_fits_lem args.key.now args.b.now args.number args.i c.requires.b_len.0 c.is_headed.result
          c.is_headed.ensures.value c.open_text.result (ap not c.if-not-is_headed.false) c.open_text.ensures.value;
      out_after = c.open_text.ensures.out_after;
    }
