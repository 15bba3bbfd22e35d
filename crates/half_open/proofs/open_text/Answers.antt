use mathlib.Core.Path.{sym, ap, ◌∙◌}
use Rattle.aead_seal.specs.Aead.{poly_key}
use Rattle.half_open.proofs.Laws.{nonce_part, text_opens, opened_text_lem}
use Rattle.half_open.proofs.open_text.Goals as goal

pub open_by-requires : goal.open_by-requires
open_by-requires c =
    c.requires.once_value
    ∙ ap (poly_key c.args.key.now) (sym (nonce_part _ _ c.requires.b_len.0 c.copy.ensures))

pub returns : goal.returns
returns c =
    let en = c.copy.ensures in
    let et = c.copy-2.ensures in
    let eo = c.copy-3.ensures in
    let er = c.open_by.ensures.value in
    record {
      value = text_opens _ _ _ _ _ _ _ c.requires.b_len.0 c.requires.b_len.1 en et eo er;
      out_after =
          opened_text_lem _ _ _ _ _ _ _ c.requires.b_len.0 c.requires.b_len.1 en et eo er _
          c.open_by.ensures.text_after;
    }
