use Rattle.std.proofs.Common.{◌++◌, List, ℕ, append_assoc, subst}
use Rattle.std.specs.Int.{to_be_bytes, w32}
use Rattle.luks_kdf.specs.Hmac.{hmac_of, inner_block}
use Rattle.luks_kdf.specs.Pbkdf2.{u_of}
use Rattle.luks_kdf.proofs.lanes.first_iteration.Goals as goal

pub returns : goal.returns
unfolding hmac_of u_of
returns g c = λ pass holds_inner holds_outer.
    let salt : List ℕ = c.args.salt.now in
    let number : List ℕ = to_be_bytes w32 c.args.number in
    let key : List ℕ = inner_block g.E.Engine.function pass in
    let with_salt = c.absorb.ensures key (rw c.begin-inner.ensures holds_inner) in
    let with_number = c.absorb-2.ensures (key ++ salt) with_salt in
    let Holds : List ℕ → Type 0 = λ m. g.E.Engine.holds c.absorb-2.new.self m in
    let holds = subst Holds (append_assoc key salt number) (rw c.to_be_bytes.ensures at with_number) in
    c.complete.ensures _ (key ++ (salt ++ number)) holds_outer holds
