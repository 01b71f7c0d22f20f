-- A walk does the run's work: what is left to do gives the same answer as all of it.
use Rattle.std.proofs.Common.{◌≡◌, ℕ, suc, ◌+◌, ◌-◌, ◌<◌, ◌≤◌, eqb, List, length, get_or, drop, Some, None, Option, sym, refl, ap, ◌∙◌, arith, drop-cons, ne_eqb}
use Rattle.std.proofs.lemmas.List.{drop_all}
use Rattle.std.specs.Option.{option_map}
use Rattle.x86.proofs.Complete.{passed_over}
use Rattle.automata.specs.Runs.{reached, run}

-- k bytes more
abbrev pub plus : ℕ → Option ℕ → Option ℕ
plus k o = option_map (λ n. k + n) o

plus_suc : (k : ℕ) (o : Option ℕ) → plus k (option_map suc o) ≡ plus (k + 1) o
plus_suc k None = refl
plus_suc k (Some n) = ap (λ (m : ℕ). Some m) (omega arith)

pub plus_none : (o : Option ℕ) → plus 0 o ≡ o
plus_none None = refl
plus_none (Some n) = ap (λ (m : ℕ). Some m) (omega arith)

pub goes_on : (t : ℕ) (o : Option ℕ) → 2 ≤ t → reached t o ≡ option_map suc o
goes_on t o h = passed_over (eqb t 0) _ _ _ (ne_eqb t 0 (λ e. omega arith)) (passed_over (eqb t 1) _ _ _ (ne_eqb t 1 (λ e. omega arith)) refl)
