-- Two puts with no byte in common, in either order.
use Rattle.std.proofs.Common.{◌≡◌, ℕ, ◌+◌, ◌/◌, ◌≤◌, ◌⊎◌, List, length, Ok, sym, refl, ap, ◌∙◌, arith}
use Rattle.memory.specs.Access.{Outcome, lacking, last_page, stored, put_of}
use Rattle.memory.specs.Meaning.{Meaning, Valid}
use Rattle.memory.proofs.Laid.{laid_comm}
use Rattle.memory.proofs.Marks.{count, marked, length_marked, count_marked, marked_comm}
use Rattle.memory.proofs.Pages.{first_page, last_page_lem}
use Rattle.memory.proofs.Puts.{meaning_same, put_ok}

module _ (m : Meaning) (a b : ℕ) (bs cs : List ℕ) (v : Valid m)
    (some : 1 ≤ length bs) (few : length bs ≤ 4) (some' : 1 ≤ length cs) (few' : length cs ≤ 4)
    (apart : (a + length bs ≤ b) ⊎ (b + length cs ≤ a))
    (in_a : a + length bs ≤ m.size) (in_b : b + length cs ≤ m.size)
    (free_a : lacking m (a / 256) (last_page a (length bs)) ≤ m.free)
    (free_b : lacking (stored m a bs) (b / 256) (last_page b (length cs)) ≤ (stored m a bs).free) where
  -- both orders take as many pages
  same_growth :
      lacking m (a / 256) (last_page a (length bs)) + lacking (stored m a bs) (b / 256) (last_page b (length cs))
      ≡ lacking m (b / 256) (last_page b (length cs)) + lacking (stored m b cs) (a / 256) (last_page a (length bs))
  same_growth =
      let p = a / 256 in
      let q = last_page a (length bs) in
      let x = b / 256 in
      let y = last_page b (length cs) in
      let h = m.held in
      let pl = first_page m a bs v some few in_a in
      let ql = last_page_lem m a bs v some few in_a in
      let xl = first_page m b cs v some' few' in_b in
      let yl = last_page_lem m b cs v some' few' in_b in
      let one = count_marked h p q pl ql in
      let two = count_marked (marked h p q) x y (rw (length_marked h p q) xl) (rw (length_marked h p q) yl) in
      let three = count_marked h x y xl yl in
      let four = count_marked (marked h x y) p q (rw (length_marked h x y) pl) (rw (length_marked h x y) ql) in
      let five = ap count (marked_comm h p q x y) in
      omega arith

  pub swap_first : ◌≡◌ {A = Outcome} (put_of m b cs) (Ok tt, stored m b cs)
  swap_first = put_ok m b cs in_b (omega (arith, same_growth))

  pub swap_second : ◌≡◌ {A = Outcome} (put_of (stored m b cs) a bs) (Ok tt, stored (stored m a bs) b cs)
  swap_second =
      put_ok (stored m b cs) a bs in_a (omega (arith, same_growth))
      ∙ ap (λ n. (Ok tt, n))
      (sym (meaning_same (stored (stored m a bs) b cs) (stored (stored m b cs) a bs) refl (laid_comm bs cs m.bytes a b apart)
      (marked_comm m.held (a / 256) (last_page a (length bs)) (b / 256) (last_page b (length cs))) (omega (arith, same_growth))))
