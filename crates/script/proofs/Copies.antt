-- A group that comes many times over.
use Rattle.std.proofs.Common.{◌≡◌, ℕ, suc, ◌+◌, ◌-◌, ◌<◌, List, ◌++◌, append_assoc, arith}
use Rattle.std.specs.List.{repeat}

pub copies_turn : (done more group : List ℕ) (n i : ℕ) → i < n → more ≡ done ++ group → more ++ repeat (n - (i + 1)) group ≡ done ++ repeat (n - i) group
copies_turn done more group n i h e =
    let f : n - i ≡ suc (n - (i + 1)) = omega arith in
    rw (f, e) (append_assoc done group (repeat (n - (i + 1)) group))
