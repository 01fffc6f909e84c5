use Rattle.std.proofs.Common.{[], ◌∷◌}
use Rattle.luks_aes.specs.Aes.{sub_bytes, shift_rows}
use Rattle.luks_aes.proofs.state.sub_bytes_and_shift_rows.Goals as goal

pub returns : goal.returns
unfolding sub_bytes shift_rows
returns c = λ i.
    c.sbox.ensures i ∷ c.sbox-2.ensures i ∷ c.sbox-3.ensures i ∷ c.sbox-4.ensures i
    ∷ c.sbox-5.ensures i ∷ c.sbox-6.ensures i ∷ c.sbox-7.ensures i ∷ c.sbox-8.ensures i
    ∷ c.sbox-9.ensures i ∷ c.sbox-10.ensures i ∷ c.sbox-11.ensures i ∷ c.sbox-12.ensures i
    ∷ c.sbox-13.ensures i ∷ c.sbox-14.ensures i ∷ c.sbox-15.ensures i ∷ c.sbox-16.ensures i ∷ []
