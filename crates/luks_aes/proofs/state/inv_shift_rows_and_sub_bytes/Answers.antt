use Rattle.std.proofs.Common.{[], ◌∷◌}
use Rattle.luks_aes.specs.Aes.{inv_sub_bytes, inv_shift_rows}
use Rattle.luks_aes.proofs.state.inv_shift_rows_and_sub_bytes.Goals as goal

pub returns : goal.returns
unfolding inv_sub_bytes inv_shift_rows
returns c = λ i.
    c.inv_sbox.ensures i ∷ c.inv_sbox-2.ensures i ∷ c.inv_sbox-3.ensures i ∷ c.inv_sbox-4.ensures i
    ∷ c.inv_sbox-5.ensures i ∷ c.inv_sbox-6.ensures i ∷ c.inv_sbox-7.ensures i ∷ c.inv_sbox-8.ensures i
    ∷ c.inv_sbox-9.ensures i ∷ c.inv_sbox-10.ensures i ∷ c.inv_sbox-11.ensures i ∷ c.inv_sbox-12.ensures i
    ∷ c.inv_sbox-13.ensures i ∷ c.inv_sbox-14.ensures i ∷ c.inv_sbox-15.ensures i ∷ c.inv_sbox-16.ensures i ∷ []
