use mathlib.Core.Path.{◌∙◌}
use Rattle.aead_one_time.proofs.Laws.{keys_law}
use Rattle.std.proofs.Common.{rules}
use Rattle.aead_one_time.proofs.eight_keys.Goals as goal

pub returns : goal.returns
returns c =
    let args = c.args in
    c.store_keys.ensures
    ∙ keys_law 8 args.key.now _ args.a args.b _ _ _ (search rules) (search rules)
    c.key_words.ensures c.eight_starts.ensures c.blocks-2.ensures
