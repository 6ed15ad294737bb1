-- One turn of a loop over two tables in lists, with a place in each.
use Rattle.std.specs.Prelude.{ℕ, ◌≤◌, ◌<◌, ◌+◌, ◌-◌, min, ◌≡◌, List, [], eqb, length, take}
use Rattle.std.proofs.Common.{sym, ap, ap₂, ◌∙◌, arith, length-take, drop_of_length-le}
use Rattle.std.proofs.Math.Seq.{slice}
use Rattle.tables.specs.Table.{pick, cons?}
use Rattle.tables.specs.Zip.{Rows, kind, zip, front, said, past, Rise, rise_past, zip_step, zip_nil, next_past, next_le, by_lt, pick_some}

-- the first key ahead, or e where there is none
pub record Ahead (N : Rows) (l : List N.Row) (i n e key : ℕ) : Type 0 where
  pub is : key ≡ front N e (slice i n l)
  pub small : i < n → key < e
  pub fits : n ≤ length l
  pub le : i ≤ n

abbrev pub after : ℕ → ℕ → ℕ → ℕ
after i key low = i + pick (eqb key low) 1 0

module _ (N : Rows) (l m : List N.Row) (i n j k e low f g : ℕ) (d : N.Row) (p : Ahead N l i n e f) (q : Ahead N m j k e g) (more : i + j < n + k) (lo : low ≡ min f g) where
  pub low_small : low < e
  low_small = by_lt i n (λ h. let s = p.small h in omega arith) (λ h. let a = p.le in let s = q.small (omega arith) in omega arith)

  pub left : slice (after i f low) n l ≡ past N low (slice i n l)
  left = rw p.is (next_past N l i n e low d low_small p.fits)

  pub right : slice (after j g low) k m ≡ past N low (slice j k m)
  right = rw q.is (next_past N m j k e low d low_small q.fits)

  pub le_left : after i f low ≤ n
  le_left = rw p.is (next_le N l i n e low d low_small p.fits p.le)

  pub le_right : after j g low ≤ k
  le_right = rw q.is (next_le N m j k e low d low_small q.fits q.le)

  pub moves : i + j < after i f low + after j g low
  moves = by_lt f g
      (λ h. let s = pick_some f low (omega arith) in omega arith)
      (λ h. let s = pick_some g low (omega arith) in omega arith)

  pub less : (i' j' : ℕ) → i' ≡ after i f low → j' ≡ after j g low → n + k - (i' + j') < n + k - (i + j)
  less i' j' ei ej = let g = moves in omega arith

  module _ (rl : Rise N (slice i n l)) (rm : Rise N (slice j k m)) where
    pub rise_left : Rise N (slice (after i f low) n l)
    rise_left = rw left (rise_past N low (slice i n l) rl)

    pub rise_right : Rise N (slice (after j g low) k m)
    rise_right = rw right (rise_past N low (slice j k m) rm)

    pub turn : (h : ℕ → N.Val → N.Val → N.Val)
        → zip (kind N) h (slice i n l) (slice j k m) ≡ cons? (N.row low (h low (said N low (slice i n l)) (said N low (slice j k m)))) (zip (kind N) h (slice (after i f low) n l) (slice (after j g low) k m))
    turn h =
        zip_step N h e low (slice i n l) (slice j k m) rl rm low_small (lo ∙ ap₂ min p.is q.is)
        ∙ ap (cons? (N.row low (h low (said N low (slice i n l)) (said N low (slice j k m))))) (ap₂ (zip (kind N) h) (sym left) (sym right))

pub end : (N : Rows) (h : ℕ → N.Val → N.Val → N.Val) (l m : List N.Row) (i n j k : ℕ) → n + k ≤ i + j → i ≤ n → j ≤ k → zip (kind N) h (slice i n l) (slice j k m) ≡ []
end N h l m i n j k le hi hj =
    let a : slice i n l ≡ [] = drop_of_length-le (take n l) {i = i} (simp length-take (omega arith)) in
    let b : slice j k m ≡ [] = drop_of_length-le (take k m) {i = j} (simp length-take (omega arith)) in
    rw (a, b) (zip_nil (kind N) h)
