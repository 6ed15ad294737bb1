-- What is proved of specs/Histories.antt.
use Rattle.std.specs.Prelude.{ℕ, ◌≤◌, ◌<◌, ◌≡◌, refl, Bool, true, false, ◌||◌, List, [], ◌∷◌, T, eqb}
use Rattle.std.proofs.Common.{sym, ◌∙◌, subst, eqb-true, eq-eqb}
use Rattle.std.proofs.Math.Path.{ap}
use Rattle.std.proofs.lemmas.Bool.{false≢true}
use Rattle.tables.specs.Truth.{and_i}
use Rattle.tables.specs.Table.{pick, any, every}
use Rattle.dots.specs.Clock.{count, normal}
use Rattle.clocks.specs.declared.VClock.{VClock}
use Rattle.clocks.specs.VClock.{dots_of}
use Rattle.replica.specs.Replica.{Replica, is_in, holds}
use Rattle.replica.specs.Rules.{remove}
use Rattle.replica.specs.Listed.{listed}
use Rattle.replica.specs.WellFormed.{sound}
use Rattle.replica.specs.Limits.{full}
use Rattle.replica.proofs.LimitsFacts.{well_formed_from}
use Rattle.replica.specs.History.{apply, step, run}
use Rattle.replica.specs.HistoryLaws.{fair}
use Rattle.replica.proofs.HistoryLaws.{run_judged}
use Rattle.replica.specs.StaysDown.{forgets}
use Rattle.replica.proofs.StaysDownFacts.{stays_down_all, back_by_new}
use Rattle.layout.specs.Fields.{Bytes}
use Rattle.layout.specs.Image.{image_of}
use Rattle.layout.proofs.MainFacts.{good_formed}
use Rattle.std.specs.Prelude.{Result}
use Rattle.dots.specs.declared.refusals.Refused.{Refused}
use Rattle.dots.specs.Answers.{number_in}
use Rattle.operations.specs.declared.Op.TheVariants.{Remove}
use Rattle.claims.specs.Granted.{WellFormed, Granted, image, Fit}
use Rattle.claims.proofs.GrantedFacts.{granted_fit, granted_well_formed, granted_says}
use Rattle.claims.specs.Requests.{Request, apply_op, event_of, Lent}
use Rattle.claims.proofs.RequestsFacts.{does}
use Rattle.claims.specs.Histories.{Answers, History, Unforgotten, Ran, ends, goes}

-- a granted call goes on from what it wrote
pub granted_goes : (q : Request) {a before after z : List ℕ} {later : List Request} {r : Result ℕ Refused} → Lent q → Answers q a before r after → Granted r → History (image r after) later z → History a (q ∷ later) z
granted_goes q {a} {after = after} {z = z} {later = later} {r = r} l kept g h = goes l kept (subst (λ (b : Bool). History (pick b (image r after) a) later z) (sym (eq-eqb (number_in r) 0 g)) h)

neither : (a b : Bool) → (a || b) ≡ false → (a ≡ false) × (b ≡ false)
neither true b e = absurd (false≢true (sym e))
neither false b e = (refl, e)

pub ran : {a z : List ℕ} {later : List Request} → WellFormed a → History a later z → Ran a later z
unfolding run
ran w ends = record { granted = []; all_fair = tt; end_formed = w; end_says = refl; no_more = λ x n e. refl }
ran {a} {z} w (goes {before = before} {after = after} {q = q} {later = later} {r = r} l kept h) = go (eqb (number_in r) 0) refl (λ v. ran v h)
  where
    go : (b : Bool) → eqb (number_in r) 0 ≡ b → (WellFormed (pick b (image r after) a) → Ran (pick b (image r after) a) later z) → Ran a (q ∷ later) z
    go true e rest =
        let g = eqb-true (number_in r) 0 e in
        let t = rest (granted_well_formed (does q a l) w.bytes kept g) in
        record {
          granted = event_of q ∷ t.granted;
          all_fair = and_i (fair (event_of q)) (every fair t.granted) (granted_fit (does q a l) w.bytes kept g).event_fair t.all_fair;
          end_formed = t.end_formed;
          end_says = t.end_says ∙ ap (run t.granted) (granted_says (does q a l) w.bytes kept g);
          no_more = λ x n e.
              let o = neither (forgets x n (event_of q)) (any (λ p. forgets x n (event_of p)) later) e in
              rw o.0 (t.no_more x n o.1);
        }
    go false e rest =
        let t = rest w in
        record {
          granted = t.granted;
          all_fair = t.all_fair;
          end_formed = t.end_formed;
          end_says = t.end_says;
          no_more = λ x n e. t.no_more x n (neither (forgets x n (event_of q)) (any (λ p. forgets x n (event_of p)) later) e).1;
        }

-- ---- what is taken down

module _ (a : List ℕ) (c : VClock) (ms : List ℕ) {before after z : List ℕ} {later : List Request} {r : Result ℕ Refused} (bytes : Bytes a) (lent : Lent (apply_op Remove c ms))
    (removes : Answers (apply_op Remove c ms) a before r after) (done : Granted r) (history : History (image r after) later z) where
  fit : Fit a (event_of (apply_op Remove c ms))
  fit = granted_fit (does (apply_op Remove c ms) a lent) bytes removes done

  clock_ok : T (normal (dots_of c))
  unfolding fair
  clock_ok = fit.event_fair

  replica_ok : T (sound (image_of a))
  replica_ok = (well_formed_from full (image_of a) (good_formed a fit.image_good)).0

  t : Ran (image r after) later z
  t = ran (granted_well_formed (does (apply_op Remove c ms) a lent) bytes removes done) history

  end : image_of z ≡ run t.granted (remove (dots_of c) ms (image_of a))
  unfolding step apply
  end = t.end_says ∙ ap (run t.granted) (granted_says (does (apply_op Remove c ms) a lent) bytes removes done)

  pub stays_down : (m x n : ℕ) → T (listed ms m) → 0 < n → n ≤ count (dots_of c) x → Unforgotten later x n → holds (image_of z) m x n ≡ false
  stays_down m x n i p k u =
      ap (λ (A : Replica). holds A m x n) end
      ∙ stays_down_all (dots_of c) ms (image_of a) t.granted clock_ok replica_ok t.all_fair m x n i p k (t.no_more x n u)

  pub comes_back_new : (m : ℕ) → T (listed ms m) → ((x n : ℕ) → 0 < n → n ≤ count (dots_of c) x → Unforgotten later x n)
      → T (is_in (image_of z) m) → (x : ℕ) × (n : ℕ) × T (holds (image_of z) m x n) × (count (dots_of c) x < n)
  comes_back_new m i u v =
      let e = end ∙ run_judged t.granted (remove (dots_of c) ms (image_of a)) in
      rw e (back_by_new (λ e A. true) (dots_of c) ms (image_of a) t.granted clock_ok replica_ok t.all_fair m i (λ x n p k. t.no_more x n (u x n p k)) (rw e at v))
