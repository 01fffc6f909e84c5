use Rattle.std.proofs.Common.{◌≡◌, ◌∙◌, ap, arith, length, append-nil, append_assoc, length-append, length-take, sym}
use Rattle.std.proofs.Common.{take, List, ℕ, ◌++◌}
use Rattle.std.proofs.lemmas.List.{take_all, take_more}
use Rattle.luks_argon2.specs.Hashing.{hasher_after}
use Rattle.luks_argon2.proofs.hashing.Hasher.update.Goals as goal

pub bytes-init : goal.bytes-init
bytes-init c = λ n m is small. rw (append-nil) is

pub bytes-preserved : goal.bytes-preserved
bytes-preserved c = λ n m is small.
    let bytes = c.args.bytes.now in
    let i = c.bytes.i in
    c.push.ensures n (m ++ take i bytes) (c.bytes.invariant n m is small)
    (omega (arith, length-append m (take i bytes), length-take i bytes))
    ∙ ap (hasher_after n) (append_assoc m (take i bytes) _
    ∙ ap (λ (l : List ℕ). m ++ l) (sym (take_more bytes i 0 (omega arith))))

pub returns : goal.returns
returns c = λ n m is small.
    let bytes = c.args.bytes.now in
    let done : c.bytes.i ≡ length bytes = omega arith in
    rw done at c.bytes.invariant n m is small
    ∙ ap (λ (l : List ℕ). hasher_after n (m ++ l)) (take_all (length bytes) bytes (omega arith))
