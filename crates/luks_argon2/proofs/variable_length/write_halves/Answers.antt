use Rattle.std.proofs.Common.{◌≡◌, ◌∙◌, ◌*◌, ◌+◌, ◌-◌, arith, ap, drop, length, length-drop, length-take, refl, rules}
use Rattle.std.proofs.Common.{sym, take}
use Rattle.luks_argon2.specs.Blake2b.{blake2b}
use Rattle.luks_argon2.specs.VariableLength.{half_count, halves, v_at}
use Rattle.luks_argon2.proofs.VariableLengthLemmas.{halves_more, long_is, v_next}
use Rattle.std.proofs.lemmas.List.{take_at}
use Rattle.luks_argon2.proofs.variable_length.write_halves.Goals as goal

pub halves-init : goal.halves-init
unfolding v_at halves
halves-init c = (
  search rules,
  refl,
  take_at c.copy_from_slice.new.self _ 32
      (omega (arith, c.copy_from_slice.ensures.len, length-take 32 c.args.out.now))
      ∙ c.copy_from_slice.ensures.after,
)

pub halves-preserved : goal.halves-preserved
halves-preserved c =
    let m = c.args.first in
    let i = c.halves.i in
    let at : i - 1 + 1 ≡ i = omega arith in
    let after : i + 1 - 1 ≡ i = omega arith in
    let v : c.blake2b_512-v.result ≡ v_at m i =
    c.blake2b_512-v.ensures.value
    ∙ (ap (blake2b 64) c.halves.invariant.1 ∙ (sym (v_next m (i - 1)) ∙ ap (v_at m) at)) in (
      search rules,
      v ∙ ap (v_at m) (sym after),
      halves_more c.halves.out _ m i _ c.halves.invariant.2 (omega arith)
          (c.copy_from_slice-in-halves.ensures.after ∙ ap (take 32) v)
          (c.copy_from_slice-in-halves.ensures.len ∙ simp (length-take, length-drop) (omega arith)),
    )

pub returns : goal.returns
returns c =
    let n = length c.args.out.now in
    let m = c.args.first in
    let r = half_count n in
    let count : c.div_ceil-count.result - 2 ≡ r = omega (arith, c.div_ceil-count.ensures) in
    let done : c.halves.i ≡ r = omega (arith, c.halves.auto.i-end (omega arith)) in
    let all : length c.halves.out ≡ n = omega arith in
    let inv = rw done at c.halves.invariant in
    let at = 32 * (c.div_ceil-count.result - 2) in
    let size : length (take (length c.halves.out - at) (drop at c.halves.out)) ≡ n - 32 * r =
    rw (count, all) (simp (length-take, length-drop) (omega arith)) in
    let last : c.blake2b.new.out ≡ blake2b (n - 32 * r) (v_at m (r - 1)) =
    c.blake2b.ensures ∙ rw (size, inv.1) refl in
    rw (count, all) (long_is c.halves.out c.blake2b.new.out m n all inv.2 last
    (c.blake2b.auto.out ∙ size))

pub slice_bounds-copy_from_slice-end-2 : goal.slice_bounds-copy_from_slice-end-2
slice_bounds-copy_from_slice-end-2 c = omega (arith, length-take 32 c.args.out.now)

pub slice_bounds-copy_from_slice-end-in-halves-2 : goal.slice_bounds-copy_from_slice-end-in-halves-2
slice_bounds-copy_from_slice-end-in-halves-2 c =
    omega (arith, length-take 32 c.blake2b_512-v.result, c.blake2b_512-v.ensures.len)

pub copy_from_slice-requires-in-halves : goal.copy_from_slice-requires-in-halves
copy_from_slice-requires-in-halves c =
    simp (length-take, length-drop) (omega (arith, c.blake2b_512-v.ensures.len))

pub slice_bounds-copy_from_slice-end-3 : goal.slice_bounds-copy_from_slice-end-3
slice_bounds-copy_from_slice-end-3 c = omega (arith, length-take 32 c.args.first, c.requires.first)

pub copy_from_slice-requires : goal.copy_from_slice-requires
copy_from_slice-requires c = simp length-take (omega (arith, c.requires.first))
