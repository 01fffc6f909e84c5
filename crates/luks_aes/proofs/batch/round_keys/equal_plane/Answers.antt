use Rattle.std.proofs.Common.{[], ◌∷◌, ◌/◌, List, ℕ}
use Rattle.luks_aes.specs.Aes.{cell}
use Rattle.luks_aes.proofs.Bytes.{each_below_4}
use Rattle.luks_aes.specs.Words.{AreRowsOf}
use Rattle.luks_aes.proofs.batch.round_keys.equal_plane.Goals as goal

pub returns : goal.returns
returns c = λ g low.
    let a = c.row_word-a.result in
    let b = c.row_word-b.result in
    let d = c.row_word-c.result in
    let e = c.row_word-d.result in
    let words : List ℕ = a ∷ a ∷ a ∷ a ∷ b ∷ b ∷ b ∷ b ∷ d ∷ d ∷ d ∷ d ∷ e ∷ e ∷ e ∷ e ∷ [] in
    let p = c.row_word-a.ensures in
    let q = c.row_word-b.ensures in
    let r = c.row_word-c.ensures in
    let s = c.row_word-d.ensures in
    each_below_4 (λ k. AreRowsOf (λ r q. cell c.args.block r (q / 16)) c.args.j 16 words k)
    (record { row_0 = p; row_1 = q; row_2 = r; row_3 = s })
    (record { row_0 = p; row_1 = q; row_2 = r; row_3 = s })
    (record { row_0 = p; row_1 = q; row_2 = r; row_3 = s })
    (record { row_0 = p; row_1 = q; row_2 = r; row_3 = s }) g low
