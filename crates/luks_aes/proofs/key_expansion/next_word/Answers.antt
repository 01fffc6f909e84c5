use Rattle.std.proofs.Common.{◌≡◌, ◌%◌, true, false, eqb, ltb}
use Rattle.std.proofs.lemmas.Bool.{eq-eqb, ne_eqb, lt-ltb, le-ltb}
use Rattle.luks_aes.specs.Aes.{next_word}
use Rattle.luks_aes.proofs.key_expansion.next_word.Goals as goal
use Rattle.luks_aes.proofs.key_expansion.next_word.Goals.{then-i-key_words-eq0}
use Rattle.luks_aes.proofs.key_expansion.next_word.Goals.{else-i-key_words-eq0+then-key_words-gt-PLAIN_WORDS+then-i-key_words-eq4}
use Rattle.luks_aes.proofs.key_expansion.next_word.Goals.{else-i-key_words-eq0+else-key_words-gt-PLAIN_WORDS}
use Rattle.luks_aes.proofs.key_expansion.next_word.Goals.{else-key_words-gt-PLAIN_WORDS-via-then-key_words-gt-PLAIN_WORDS+else-i-key_words-eq4}
use Rattle.luks_aes.proofs.key_expansion.next_word.Goals.{else-key_words-gt-PLAIN_WORDS-via-else-key_words-gt-PLAIN_WORDS}

pub returns : goal.returns
unfolding next_word
returns c =
    let index = c.args.i % c.args.key_words in
    elim c.if-i-key_words-eq0.branch [
      | then-i-key_words-eq0 w ↦
          let first : eqb index 0 ≡ true = eq-eqb index 0 w.if-i-key_words-eq0.true in
          rw first cc
      | else-i-key_words-eq0+then-key_words-gt-PLAIN_WORDS+then-i-key_words-eq4 w ↦
          let not_first : eqb index 0 ≡ false = ne_eqb index 0 w.if-i-key_words-eq0.false in
          let long : ltb 6 c.args.key_words ≡ true = lt-ltb 6 c.args.key_words w.if-key_words-gt-PLAIN_WORDS.true in
          let middle : eqb index 4 ≡ true = eq-eqb index 4 w.if-i-key_words-eq4.true in
          rw (not_first, long, middle) cc
      | else-i-key_words-eq0+else-key_words-gt-PLAIN_WORDS w ↦
          let not_first : eqb index 0 ≡ false = ne_eqb index 0 w.if-i-key_words-eq0.false in
          elim w.else-key_words-gt-PLAIN_WORDS.branch [
            | else-key_words-gt-PLAIN_WORDS-via-then-key_words-gt-PLAIN_WORDS+else-i-key_words-eq4 v ↦
                let long : ltb 6 c.args.key_words
                ≡ true = lt-ltb 6 c.args.key_words v.if-key_words-gt-PLAIN_WORDS.true in
                let not_middle : eqb index 4 ≡ false = ne_eqb index 4 v.if-i-key_words-eq4.false in
                rw (not_first, long, not_middle) cc
            | else-key_words-gt-PLAIN_WORDS-via-else-key_words-gt-PLAIN_WORDS v ↦
                let short : ltb 6 c.args.key_words
                ≡ false = le-ltb 6 c.args.key_words v.if-key_words-gt-PLAIN_WORDS.false in
                rw (not_first, short) cc
          ]
    ]
