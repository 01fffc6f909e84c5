use Rattle.std.proofs.Common.{◌≡◌, ◌∙◌, ◌+◌, ◌-◌, ◌*◌, ◌/◌, ◌%◌, refl, ap, arith, length, take, drop}
use Rattle.std.proofs.lemmas.List.{length-take}
use Rattle.luks_kdf.specs.Bytes.{joined}
use Rattle.luks_open.specs.Candidate.{material_sector}
use Rattle.luks_open.proofs.MaterialLemmas.{in_pairs, length-joined_more, pair_more}
use Rattle.luks_open.proofs.MaterialLemmas.{sectors_none, recovered_by_last, some_bytes, whole_pairs}
use Rattle.luks_open.proofs.material.recover_by.Goals as goal

pub pairs-init : goal.pairs-init
unfolding joined
pairs-init c =
    let f = material_sector c.args.key.now c.args.image.now c.args.offset in
    let len = length c.args.out.now in
    record {
      len = c.new-splitter.ensures.len;
      before = refl;
      absorbed = sectors_none c.args.af len (1024 / len) f c.new-splitter.result c.new-splitter.ensures.start;
    }

pub decrypt_sectors-requires-clause-there : goal.decrypt_sectors-requires-clause-there
decrypt_sectors-requires-clause-there c =
    let len = length c.args.out.now in
    let layout = in_pairs len c.args.stripes _ _ _ c.requires.key_bytes c.requires.some refl refl refl in
    omega (arith, layout.there, c.requires.there)

pub decrypt_sectors-requires-2-clause-there : goal.decrypt_sectors-requires-2-clause-there
decrypt_sectors-requires-2-clause-there c =
    let len = length c.args.out.now in
    let layout = in_pairs len c.args.stripes _ _ _ c.requires.key_bytes c.requires.some refl refl refl in
    omega (
      arith,
      layout.there,
      layout.few,
      c.requires.there,
      c.last_len.ensures,
      length-take c.last_len.result c.pairs.sectors,
    )

pub pairs-preserved : goal.pairs-preserved
pairs-preserved c =
    let f = material_sector c.args.key.now c.args.image.now c.args.offset in
    let len = length c.args.out.now in
    let layout = in_pairs len c.args.stripes _ _ _ c.requires.key_bytes c.requires.some refl refl refl in
    let pair = c.decrypt_sectors.new.sectors in
    let full : length pair ≡ 1024 = omega arith in
    let i = c.pairs.i in
    let two : length c.pairs.sectors / 512 ≡ 2 = omega arith in
    let is_pair : pair ≡ joined (λ m. f (2 * i + m)) 2 =
    c.decrypt_sectors.ensures ∙ ap (joined (λ m. f (2 * i + m))) two in
    let before : length (joined f (2 * i)) ≡ i * (1024 / len) * len =
    c.pairs.invariant.before ∙ whole_pairs i (1024 / len) len layout.fits in
    record {
      len = c.absorb_stripes.ensures.len;
      before = length-joined_more f i pair c.pairs.invariant.before is_pair full;
      absorbed = pair_more c.args.af len (1024 / len) f i pair c.absorb_stripes.new.splitter layout.fits is_pair full
          (c.absorb_stripes.ensures.absorbed c.args.af (joined f (2 * i)) (i * (1024 / len)) before
          c.pairs.invariant.absorbed);
    }

pub returns : goal.returns
returns c =
    let f = material_sector c.args.key.now c.args.image.now c.args.offset in
    let len = length c.args.out.now in
    let pairs = (c.args.stripes - 1) / (1024 / len) in
    let rest = (c.args.stripes - 1) % (1024 / len) in
    let left = c.last_len.result in
    let layout = in_pairs len c.args.stripes pairs rest left c.requires.key_bytes c.requires.some refl refl
    c.last_len.ensures in
    let sectors = c.decrypt_sectors-2.new.sectors in
    let lent : length (take left c.pairs.sectors) ≡ left =
    omega (arith, layout.few, length-take left c.pairs.sectors) in
    let full : length sectors ≡ left = omega (arith, lent) in
    let is_sectors : sectors ≡ joined (λ m. f (2 * pairs + m)) (left / 512) =
    c.decrypt_sectors-2.ensures ∙ ap (λ n. joined (λ m. f (2 * pairs + m)) (n / 512)) lent in
    let at_end : c.pairs.i ≡ pairs = omega arith in
    let before : length (joined f (2 * pairs)) ≡ pairs * 1024 = rw at_end at c.pairs.invariant.before in
    let absorbed = rw at_end at c.pairs.invariant.absorbed in
    let is_last : take (rest * len + len - rest * len) (drop (rest * len) sectors)
    ≡ take len (drop (rest * len) sectors) =
    ap (λ n. take n (drop (rest * len) sectors)) (omega arith) in
    c.last.ensures
    ∙ recovered_by_last c.args.af c.args.key.now c.args.image.now c.args.offset len c.args.stripes pairs rest left
    sectors _ c.absorb_stripes-2.new.splitter layout (some_bytes len c.requires.key_bytes) before is_sectors full
    is_last
    (c.absorb_stripes-2.ensures.absorbed c.args.af (joined f (2 * pairs)) (pairs * (1024 / len))
    (before ∙ whole_pairs pairs (1024 / len) len layout.fits) absorbed)
