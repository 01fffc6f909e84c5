use Rattle.std.proofs.Common.{◌≡◌, ℕ, ◌+◌, ◌*◌, ◌/◌, ◌%◌, arith, sym, ap, subst, ◌∙◌, inl, inr}
use Rattle.std.specs.Prelude.{slice_index}
use Rattle.std.specs.Int.{bit_at}
use Rattle.std.proofs.lemmas.Bool.{cases_lt}
use Rattle.luks_aes.specs.Bytes.{IsBytes}
use Rattle.luks_aes.specs.Blocks.{masked_byte}
use Rattle.luks_aes.specs.Words.{words_at}
use Rattle.luks_aes.proofs.PackLemmas.{masked_at, masked_state_byte, word_inside}
use Rattle.luks_aes.proofs.batch.state.BitslicedState.pack.Goals as goal

pub loop-g-preserved : goal.loop-g-preserved
loop-g-preserved g c = record {
  done = λ h r j p k before low which inside small.
      elim (cases_lt h c.loop-g.g) [
        | inl below ↦
            ap (λ w. bit_at (slice_index w j) (8 * p + k))
            (c.pack_group.ensures.others r h low (omega arith) (λ e. omega (arith, e)))
            ∙ c.loop-g.invariant.done h r j p k below low which inside small
        | inr above ↦
            let here : h ≡ c.loop-g.g = omega arith in
            subst
            (λ (x : ℕ). bit_at (slice_index (words_at (g.row.WORDS / 4 * r + x) c.pack_group.new.self) j) (8 * p + k)
            ≡ bit_at (masked_byte c.args.batch.now c.args.mask.now (16 * x + j + 8 * (p % 2)) (r + 4 * (p / 2))) k)
            (sym here) (c.pack_group.ensures.here r j p k low which inside small)
      ];
}

pub returns : goal.returns
returns g c =
    let batch = c.args.batch.now in
    let mask = c.args.mask.now in
    let all : IsBytes batch = record { each = λ k. (c.type_inv.batch k).fits } in
    let also : IsBytes mask = record { each = λ k. (c.type_inv.mask k).fits } in
    record {
      bytes = record {
        at = λ h inside. record {
          at = λ r low. record {
            bytes = λ q. masked_state_byte batch mask r h q all also;
            at = λ j q which small.
                let whole : 8 * (q / 8) + q % 8 ≡ q = omega arith in
                let i = g.row.WORDS / 4 * r + h in
                ap (bit_at (slice_index (words_at i c.transpose.new.self) j)) (sym whole)
                ∙ c.transpose.ensures i j (q / 8) (q % 8)
                (word_inside g.row.WORDS r h c.requires.whole low inside) which
                (omega arith) (omega arith)
                ∙ c.loop-g.invariant.done h r (q % 8) (q / 8) j (omega arith) low (omega arith) (omega arith) which
                ∙ ap (λ b. bit_at b j)
                (masked_at batch mask g.row.WORDS r h q c.requires.batch c.requires.mask low inside small);
          };
        };
      };
    }
