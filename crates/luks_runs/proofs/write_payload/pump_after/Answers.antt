use Rattle.std.proofs.Common.{◌≡◌, ◌+◌, ◌-◌, List, ℕ, length, take, drop, take_all, length-drop, refl, sym, ap, subst}
use Rattle.std.proofs.Common.{arith}
use Rattle.luks_io.specs.Devices.{ConsumedExactly}
use Rattle.luks_payload.specs.Plain.{sector_start}
use Rattle.luks_runs.proofs.PayloadLemmas.{prefix_after_sector}
use Rattle.luks_runs.proofs.write_payload.pump_after.Goals as goal

-- the loaded bytes in the payload are its first ones
pub returns-clause-positioned : goal.returns-clause-positioned
returns-clause-positioned c whole left prefix consumption =
    let loaded = c.args.loaded.now in
    let offset = c.args.segment.offset in
    let long = length-drop offset loaded in
    let rest : take (length loaded - offset) (drop offset loaded) ≡ drop offset loaded =
    take_all (length loaded - offset) (drop offset loaded) (omega (arith, long)) in
    let all : length loaded
    ≡ sector_start c.args.segment 0 + length (take (length loaded - offset) (drop offset loaded)) =
    omega (arith, long, ap length rest) in
    let start : 0 + offset ≡ sector_start c.args.segment 0 = omega arith in
    rw c.with_loaded.ensures (record {
      running = refl;
      positioned = record {
        next = subst (λ (l : List ℕ). l ≡ take (length l) (drop (sector_start c.args.segment 0) whole)) (sym rest)
            (subst (λ n. drop offset loaded ≡ take (length (drop offset loaded)) (drop n whole)) start
            (prefix_after_sector loaded whole 0 offset prefix));
        consumption = subst (ConsumedExactly whole left) all consumption;
      };
    })
