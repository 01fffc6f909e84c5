use Rattle.std.proofs.Common.{◌≡◌, Ok, sym, subst, ap, ◌∙◌}
use Rattle.base64.proofs.Streams.{decoded_of-ok}
use Rattle.base64.specs.Engines.{standard}
use Rattle.base64.specs.GeneralPurpose.{IsDecodeFailure, decode_of, decoded_of}
use Rattle.luks2_json.proofs.EncodedLemmas.{encoded_err}
use Rattle.luks2_json.proofs.encoded.decoded.Goals as goal

pub returns-in-Ok : goal.returns-in-Ok
returns-in-Ok c =
    let is : decode_of standard c.as_bytes.result.now ≡ Ok c.in-Ok.bytes.items = c.in-Ok.ensures.ok in
    sym (decoded_of-ok standard c.as_bytes.result.now _ is) ∙ ap (decoded_of standard) c.as_bytes.ensures.value

pub returns-in-Err-DecodeError : goal.returns-in-Err-DecodeError
returns-in-Err-DecodeError c =
    let failure : IsDecodeFailure standard c.as_bytes.result.now c.in-Err-DecodeError.field-0 =
    c.in-Err-DecodeError.ensures.err in
    sym (encoded_err c.as_bytes.result.now _
    (subst (IsDecodeFailure standard c.as_bytes.result.now) c.in-Err-DecodeError.field-0-is failure))
    ∙ ap (decoded_of standard) c.as_bytes.ensures.value
