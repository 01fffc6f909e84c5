-- The ranges of the parameters of LUKS2, as numbers.
use Rattle.std.proofs.Common.{◌≡◌, ◌≤◌, ℕ, length, arith, true}
use Rattle.std.proofs.lemmas.Bool.Decides.{nat_tests}
use Rattle.luks_cipher.specs.Sector.{is_mode_key_length}
use Rattle.luks_cipher.specs.declared.mode.Mode.{Mode}
use Rattle.luks_cipher.proofs.ModeLemmas.{key_length_of_mode, max_mode_key}
use Rattle.luks_format.specs.Header2.{sizes}
use Rattle.luks_volume.specs.Ranges2.{AreParameters2, is_header_size, Seal2}

-- each of the nine lengths of a header is from 16,384 to 4,194,304 bytes
pub shortest_header : (n : ℕ) → is_header_size n ≡ true → 16384 ≤ n
unfolding is_header_size sizes
shortest_header n is = grind (arith, nat_tests)

pub max_header : (n : ℕ) → is_header_size n ≡ true → n ≤ 4194304
unfolding is_header_size sizes
max_header n is = grind (arith, nat_tests)

-- the bounds of the lengths of headers and keys
pub ruleset limits = (shortest_header, max_header, max_mode_key)

shortest_key : (mode : Mode) (n : ℕ) → is_mode_key_length mode n ≡ true → 1 ≤ n
shortest_key mode n is =
    let known = key_length_of_mode mode n is in
    grind (arith, nat_tests)

module _ (p : Seal2) (fits : AreParameters2 p) where
  pub some_key : 1 ≤ length p.key.now
  some_key = shortest_key p.mode (length p.key.now) fits.keys.0

  pub short_key : length p.key.now ≤ 64
  short_key = max_mode_key p.mode (length p.key.now) fits.keys.0

  pub some_area_key : 1 ≤ p.area_key_size
  some_area_key = shortest_key p.area_mode p.area_key_size fits.keys.1

  pub short_area_key : p.area_key_size ≤ 64
  short_area_key = max_mode_key p.area_mode p.area_key_size fits.keys.1

  pub long_header : 16384 ≤ p.hdr_size
  long_header = shortest_header p.hdr_size fits.size

  pub short_header : p.hdr_size ≤ 4194304
  short_header = max_header p.hdr_size fits.size

-- the bounds of the lengths of keys and headers, for parameters in their ranges
pub ruleset bounds = (some_key, short_key, some_area_key, short_area_key, short_header)
