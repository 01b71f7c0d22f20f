-- A copy, byte by byte.
use Rattle.std.proofs.Common.{◌≡◌, ℕ, ◌+◌, ◌-◌, ◌<◌, ◌≤◌, cond, ◌||◌, eqb, ltb, leb, List, [], ◌∷◌, ◌++◌, length, get_or, take, drop, set, Ok, Err, Result, sym, refl, ap, ◌∙◌, ⊎_elim, arith}
use Rattle.std.proofs.lemmas.List.{append-nil, get_or_append_left, get_or-append_right, get_or-take, append_assoc, length-take-le, length-drop, take_all, drop_all, get_or-drop, set-get_or, set_at, take_more, drop_more}
use Rattle.std.proofs.lemmas.Bool.{cases_lt, cases_eq, lt-ltb, le-ltb, le-leb, lt-leb, eq-eqb, ne_eqb, or_left, or_right, or_from, cond-true, cond-false}
use Rattle.memory.specs.Access.{read_of}
use Rattle.memory.specs.Laws.{CopyAnswer, CopyExact, CopyEach}
use Rattle.memory.specs.Meaning.{Meaning, Valid}
use Rattle.memory.specs.Ranges.{bytes_of, copy_answer, copy_of, filled}
use Rattle.memory.specs.declared.faults.MemoryFault.{MemoryFault}
use Rattle.memory.specs.declared.faults.MemoryFault.TheVariants.{Outside}

pub read_ok : (m : Meaning) (a x : ℕ) → ◌≡◌ {A = Result ℕ MemoryFault} (Ok x) (read_of m a) → (a < m.size) × (x ≡ get_or m.bytes a 0)
read_ok m a x e =
    ⊎_elim
    (λ (h : a < m.size).
    let p : ◌≡◌ {A = Result ℕ MemoryFault} (Ok x) (Ok (get_or m.bytes a 0)) = e ∙ cond-true _ _ _ (lt-ltb a m.size h) in
    (h, cc))
    (λ (h : m.size ≤ a).
    let p : ◌≡◌ {A = Result ℕ MemoryFault} (Ok x) (Err (Outside a)) = e ∙ cond-false _ _ _ (le-ltb a m.size h) in
    let z : ◌≡◌ {A = ℕ} 0 1 = cc in
    absurd (omega arith))
    (cases_lt a m.size)

read_err : (m : Meaning) (a : ℕ) (f : MemoryFault) → ◌≡◌ {A = Result ℕ MemoryFault} (Err f) (read_of m a) → (m.size ≤ a) × (f ≡ Outside a)
read_err m a f e =
    ⊎_elim
    (λ (h : a < m.size).
    let p : ◌≡◌ {A = Result ℕ MemoryFault} (Err f) (Ok (get_or m.bytes a 0)) = e ∙ cond-true _ _ _ (lt-ltb a m.size h) in
    let z : ◌≡◌ {A = ℕ} 0 1 = cc in
    absurd (omega arith))
    (λ (h : m.size ≤ a).
    let p : ◌≡◌ {A = Result ℕ MemoryFault} (Err f) (Err (Outside a)) = e ∙ cond-false _ _ _ (le-ltb a m.size h) in
    (h, cc))
    (cases_lt a m.size)

-- how many of the bytes there are, and the answer by that
module _ (m : Meaning) (a k : ℕ) where
  copy_ok : length (bytes_of m a k) ≡ k → copy_answer m a k ≡ Ok tt
  copy_ok e = cond-false _ _ _ (le-ltb (length (bytes_of m a k)) k (omega arith))

  copy_err : (i : ℕ) → length (bytes_of m a k) ≡ i → i < k → copy_answer m a k ≡ Err (Outside (a + i))
  copy_err i e h = cond-true _ _ _ (lt-ltb (length (bytes_of m a k)) k (omega arith)) ∙ ap (λ j. Err (Outside (a + j))) e

  count_inside : Valid m → a + k ≤ m.size → length (bytes_of m a k) ≡ k
  count_inside v h = length-take-le k (drop a m.bytes) (rw (length-drop a m.bytes) (omega (arith, v.all_bytes)))

  count_past : Valid m → m.size ≤ a + k → length (bytes_of m a k) ≡ m.size - a
  count_past v h =
      ap length (take_all k (drop a m.bytes) (rw (length-drop a m.bytes) (omega (arith, v.all_bytes))))
      ∙ (length-drop a m.bytes ∙ ap (λ s. s - a) v.all_bytes)

-- an answer, and the buffer after it
abbrev Filling : Type 0
Filling = Result (Unit {0}) MemoryFault × List ℕ

filling : (r : Result (Unit {0}) MemoryFault) (xs : List ℕ) (f : Filling) → r ≡ f.0 → xs ≡ f.1 → ◌≡◌ {A = Filling} (r, xs) f
filling r xs f p q = ap (λ x. (x, xs)) p ∙ ap (λ x. (f.0, x)) q

-- one more byte of xs at the start of ys
start_more : (xs ys : List ℕ) (i : ℕ) → i < length ys → i + 1 ≤ length xs → set (take i xs ++ drop i ys) i (get_or xs i 0) ≡ take (i + 1) xs ++ drop (i + 1) ys
start_more xs ys i h l =
    ap (λ zs. set (take i xs ++ zs) i (get_or xs i 0)) (drop_more ys i 0 h)
    ∙ (set_at (take i xs) (get_or ys i 0) (drop (i + 1) ys) (get_or xs i 0) i (length-take-le i xs (omega arith))
    ∙ sym (ap (λ zs. zs ++ drop (i + 1) ys) (take_more xs i 0 (omega arith)) ∙ append_assoc (take i xs) (get_or xs i 0 ∷ []) (drop (i + 1) ys)))

-- the loop: the first i bytes are in the buffer xs, which was ys, and the next is read
module _ (m : Meaning) (a i : ℕ) (xs ys : List ℕ) (v : Valid m) (h : i < length ys) (so : xs ≡ take i (drop a m.bytes) ++ drop i ys) where
  pub turn_ok : (x : ℕ) → ◌≡◌ {A = Result ℕ MemoryFault} (Ok x) (read_of m (a + i))
      → (i + 1 ≤ length (drop a m.bytes)) × (set xs i x ≡ take (i + 1) (drop a m.bytes) ++ drop (i + 1) ys) × (a + (i + 1) < 4294967296)
  turn_ok x r =
      let t = read_ok m (a + i) x r in
      let more : i + 1 ≤ length (drop a m.bytes) = rw (length-drop a m.bytes) (omega (arith, v.all_bytes, t.0)) in
      let byte : x ≡ get_or (drop a m.bytes) i 0 = t.1 ∙ sym (get_or-drop a m.bytes i 0) in (
        more,
        ap (λ zs. set zs i x) so ∙ (ap (λ y. set (take i (drop a m.bytes) ++ drop i ys) i y) byte ∙ start_more (drop a m.bytes) ys i h more),
        omega (arith, t.0, v.fit.1),
      )

  stops : m.size ≤ a + i → bytes_of m a (length ys) ≡ take i (drop a m.bytes)
  stops l =
      let short : length (drop a m.bytes) ≤ i = rw (length-drop a m.bytes) (omega (arith, v.all_bytes)) in
      take_all (length ys) (drop a m.bytes) (omega arith) ∙ sym (take_all i (drop a m.bytes) short)

  pub turn_err : (f d : MemoryFault) (s : Result (Unit {0}) MemoryFault) → i ≤ length (drop a m.bytes) → s ≡ Err d → d ≡ f
      → ◌≡◌ {A = Result ℕ MemoryFault} (Err f) (read_of m (a + i)) → ◌≡◌ {A = Filling} (s, set xs i (get_or xs i 0)) (copy_of m a ys)
  turn_err f d s far q q' r =
      let t = read_err m (a + i) f r in
      let count : length (bytes_of m a (length ys)) ≡ i = ap length (stops t.0) ∙ length-take-le i (drop a m.bytes) far in
      filling s (set xs i (get_or xs i 0)) (copy_of m a ys)
      (q ∙ (ap Err (q' ∙ t.1) ∙ sym (copy_err m a (length ys) i count h)))
      (set-get_or xs i 0 ∙ (so ∙ (ap (λ zs. zs ++ drop i ys) (sym (stops t.0)) ∙ ap (λ j. bytes_of m a (length ys) ++ drop j ys) (sym count))))

-- bytes that are as many as the buffer are all of it
whole : (buffer xs : List ℕ) → length buffer ≤ length xs → filled buffer xs ≡ xs
whole buffer xs h = ap (λ zs. xs ++ zs) (drop_all (length xs) buffer h) ∙ append-nil xs

pub copy_exact : CopyExact
copy_exact m a buffer after e =
    ap (λ r. r.1) (sym e)
    ∙ ⊎_elim
    (λ (h : length (bytes_of m a (length buffer)) < length buffer).
    let p : ◌≡◌ {A = Result (Unit {0}) MemoryFault} (Err (Outside (a + length (bytes_of m a (length buffer))))) (Ok tt) =
    sym (copy_err m a (length buffer) (length (bytes_of m a (length buffer))) refl h) ∙ ap (λ r. r.0) e in
    let z : ◌≡◌ {A = ℕ} 0 1 = cc in
    absurd (omega arith))
    (λ (h : length buffer ≤ length (bytes_of m a (length buffer))). whole buffer (bytes_of m a (length buffer)) h)
    (cases_lt (length (bytes_of m a (length buffer))) (length buffer))

pub copy_is : (m : Meaning) (a : ℕ) (buffer bs : List ℕ) → length buffer ≡ length bs → bytes_of m a (length bs) ≡ bs → ◌≡◌ {A = Filling} (copy_of m a buffer) (Ok tt, bs)
copy_is m a buffer bs e b =
    let got : bytes_of m a (length buffer) ≡ bs = ap (bytes_of m a) e ∙ b in
    sym (filling (Ok tt) bs (copy_of m a buffer) (sym (copy_ok m a (length buffer) (ap length got ∙ sym e)))
    (sym got ∙ sym (whole buffer (bytes_of m a (length buffer)) (omega (arith, ap length got)))))

pub copy_each : CopyEach
copy_each m a i buffer v h =
    ⊎_elim
    (λ (l : a + i < m.size).
    get_or_append_left (bytes_of m a k) (drop (length (bytes_of m a k)) buffer) 0 i (got_far l)
    ∙ (get_or-take k (drop a m.bytes) i 0 h ∙ (get_or-drop a m.bytes i 0 ∙ sym (cond-true _ _ _ (lt-ltb (a + i) m.size l)))))
    (λ (l : m.size ≤ a + i).
    let few : length (bytes_of m a k) ≤ i = omega (arith, count_past m a k v (omega arith)) in
    let z : length (bytes_of m a k) + (i - length (bytes_of m a k)) ≡ i = omega arith in
    get_or-append_right (bytes_of m a k) (drop (length (bytes_of m a k)) buffer) (length (bytes_of m a k)) i 0 refl few
    ∙ (get_or-drop (length (bytes_of m a k)) buffer (i - length (bytes_of m a k)) 0
    ∙ (ap (λ j. get_or buffer j 0) z ∙ sym (cond-false _ _ _ (le-ltb (a + i) m.size l)))))
    (cases_lt (a + i) m.size)
  where
    k : ℕ
    k = length buffer

    got_far : a + i < m.size → i < length (bytes_of m a k)
    got_far l =
        ⊎_elim (λ (p : m.size < a + k). omega (arith, count_past m a k v (omega arith)))
        (λ (p : a + k ≤ m.size). omega (arith, count_inside m a k v p)) (cases_lt m.size (a + k))

-- the first address outside
first_out : (m : Meaning) (a : ℕ) → a + (m.size - a) ≡ cond (ltb a m.size) m.size a
first_out m a =
    ⊎_elim
    (λ (h : a < m.size). let s : a + (m.size - a) ≡ m.size = omega arith in s ∙ sym (cond-true _ _ _ (lt-ltb a m.size h)))
    (λ (h : m.size ≤ a). let s : a + (m.size - a) ≡ a = omega arith in s ∙ sym (cond-false _ _ _ (le-ltb a m.size h)))
    (cases_lt a m.size)

pub copy_answer_lem : CopyAnswer
copy_answer_lem m a buffer v = by_count m a (length buffer) v
  where
    by_count : (m : Meaning) (a k : ℕ) → Valid m
        → copy_answer m a k ≡ cond (eqb k 0 || leb (a + k) m.size) (Ok tt) (Err (Outside (cond (ltb a m.size) m.size a)))
    by_count m a k v =
        ⊎_elim
        (λ (z : k ≡ 0). copy_ok m a k (rw z refl) ∙ sym (cond-true _ _ _ (or_left _ _ (eq-eqb k 0 z))))
        (λ (nz : k ≡ 0 → ⊥).
        ⊎_elim
        (λ (h : m.size < a + k).
        copy_err m a k (m.size - a) (count_past m a k v (omega arith)) (omega arith) ∙ (ap (λ x. Err (Outside x)) (first_out m a)
        ∙ sym (cond-false _ _ _ (or_from _ _ (ne_eqb k 0 nz) (lt-leb (a + k) m.size h)))))
        (λ (h : a + k ≤ m.size). copy_ok m a k (count_inside m a k v h) ∙ sym (cond-true _ _ _ (or_right _ _ (le-leb (a + k) m.size h))))
        (cases_lt m.size (a + k)))
        (cases_eq k 0)
