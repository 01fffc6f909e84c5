use Rattle.std.proofs.Common.{arith, sym, ap}
use Rattle.std.specs.Prelude.{List, ℕ, length, option_map}
use Rattle.luks2_json.proofs.EncodedLemmas.{encoded_err, len_ok}
use Rattle.luks2_json.proofs.encoded.last_len.Goals as goal

pub returns-in-Ok-clause-value : goal.returns-in-Ok-clause-value
returns-in-Ok-clause-value c =
    sym (len_ok c.args.text.now c.decode_slice_unchecked.new.output c.in-Ok.len c.in-Ok.ensures.ok.0
    (omega (arith, c.in-Ok.ensures.ok.2, c.decode_slice_unchecked.auto.output)))

pub returns-in-Err-clause-value : goal.returns-in-Err-clause-value
returns-in-Err-clause-value c =
    sym (ap (option_map (λ (bytes : List ℕ). length bytes)) (encoded_err c.args.text.now _ c.in-Err.ensures.err))
