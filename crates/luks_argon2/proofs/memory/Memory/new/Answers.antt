use Rattle.std.proofs.Common.{◌≡◌, ◌-◌, ◌∙◌, [], length, replicate, refl, arith, ap, sym}
use Rattle.std.proofs.Math.Seq.{take-nil}
use Rattle.std.proofs.lemmas.List.{length-replicate}
use Rattle.std.specs.Vec.{vec_len}
use Rattle.luks_argon2.specs.Block.{zero_block}
use Rattle.luks_argon2.proofs.memory.Memory.new.Goals as goal

pub invariant_of-result : goal.invariant_of-result
unfolding zero_block
invariant_of-result c =
    let n = c.memory_blocks-count.result in
    let empty : c.try_reserve_exact.new.self.items ≡ [] =
    c.in_ok-try_reserve_exact.ensures.items ∙ c.new-blocks.ensures.items in
    let none : vec_len c.try_reserve_exact.new.self ≡ 0 =
    c.in_ok-try_reserve_exact.ensures.len ∙ c.new-blocks.ensures.len in
    let all : n - vec_len c.try_reserve_exact.new.self ≡ n = omega (arith, none) in
    let zeros : c.resize.new.self.items ≡ replicate n zero_block =
    c.in_ok-resize.ensures.items ∙ rw (empty, take-nil n, all) refl in
    let len : length c.resize.new.self.items ≡ n = ap length zeros ∙ length-replicate n zero_block in
    (omega (arith, len, c.memory_blocks-count.ensures.some), zeros ∙ ap (λ k. replicate k zero_block) (sym len))
