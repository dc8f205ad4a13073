-- Home and far, and when home can force Clear (document 02, F-10).
use Rattle.std.specs.Prelude.{ℕ, ◌≡◌, ◌↔◌, ◌⊎◌, Bool, true, false, List, [], ◌∷◌, T}
use Rattle.theory.specs.order.Recording.{Op, Event, act, Every}
use Rattle.theory.specs.fillings.Completion.{bit, Filler, Filled, done, keep, fill, Completion, place}
use Rattle.theory.specs.verdicts.Verdict.{Racy}

-- Who writes what

-- "a set of tasks be the home side, the rest the far side", the set "as 16 bits": task t is home's if the bit of weight 2 to the power t is in it
abbrev pub is_home : ℕ → ℕ → Bool
is_home home t = bit home t

-- "home records for the marks, of the kinds a completion may hold", and "Each side writes only for its own tasks that the mark names": a record that
-- home may put for a mark is one that a completion may, by a task of home's
pub data HomeRecord (home mask : ℕ) : Event → Type 0 where
  home_record : {o : Op} {t n : ℕ} → Filler mask (act o t n) → T (is_home home t) → HomeRecord home mask (act o t n)

-- and one that far may put likewise, by a task that is not
pub data FarRecord (home mask : ℕ) : Event → Type 0 where
  far_record : {o : Op} {t n : ℕ} → Filler mask (act o t n) → ¬ T (is_home home t) → FarRecord home mask (act o t n)

-- "home records for the marks": for each mark any finite list of home's records, in the mark's place
abbrev pub HomeFilled : ℕ → List Event → List Event → Type 0
HomeFilled home = Filled (λ mask. Every (HomeRecord home mask))

-- "with any far records put among them at the same marks": at one mark, in any interleaving
pub data Among (home mask : ℕ) : List Event → List Event → Type 0 where
  nothing_left : Among home mask [] []
  homes : {g : Event} {hs gs : List Event} → Among home mask hs gs → Among home mask (g ∷ hs) (g ∷ gs)
  fars : {g : Event} {hs gs : List Event} → FarRecord home mask g → Among home mask hs gs → Among home mask hs (g ∷ gs)

-- and at each mark: c has what h has there, with far records among it
abbrev pub Adds : (home : ℕ) {Fills : ℕ → List Event → Type 0} {es hs fs : List Event} → HomeFilled home es hs → Filled Fills es fs → Type 0
Adds home done done = Unit {0}
Adds home (keep h) (keep c) = Adds home h c
Adds home (fill {mask = mask} {gs = hs} x h) (fill {gs = gs} y c) = Among home mask hs gs × Adds home h c

-- Whether home can force Clear, for the access at place k

-- "whether there are home records for the marks .. such that, with any far records put among them at the same marks, the access is not racy"
abbrev pub CanForce : ℕ → List Event → ℕ → Type 0
CanForce home es k =
    (hs : List Event) × (h : HomeFilled home es hs) × ((fs : List Event) (c : Completion es fs) → Adds home h c → ¬ Racy c k)

-- "for every choice of home records the far side has one that makes the access racy"
abbrev pub CannotForce : ℕ → List Event → ℕ → Type 0
CannotForce home es k = (hs : List Event) (h : HomeFilled home es hs) → (fs : List Event) × (c : Completion es fs) × Adds home h c × Racy c k

-- the answer to the question is b: yes exactly when home can, and no exactly when far can always make it racy
pub record Forced (home : ℕ) (es : List Event) (k : ℕ) (b : Bool) : Type 0 where
  pub yes : (b ≡ true) ↔ CanForce home es k
  pub no : (b ≡ false) ↔ CannotForce home es k

-- What the two sides do together is a completion, and nothing else is

-- any lists at all for the marks
abbrev pub Anything : ℕ → List Event → Type 0
Anything mask gs = Unit {0}

pub record Sides : Type 0 where
  -- a record that a completion may put is one of home's or one of far's, and never both
  pub one_of : (home mask : ℕ) (g : Event) → Filler mask g ↔ (HomeRecord home mask g ⊎ FarRecord home mask g)
  pub not_both : (home mask : ℕ) (g : Event) → HomeRecord home mask g → ¬ FarRecord home mask g
  -- home's records with far's among them are a completion, in which the arrived records stand where they stand in it
  pub completes : (home : ℕ) (es hs fs : List Event) (h : HomeFilled home es hs) (d : Filled Anything es fs) → Adds home h d →
      (c : Completion es fs) × Adds home h c × ((i : ℕ) → place c i ≡ place d i)
  -- every completion is some home records with far records among them, whatever tasks are home's
  pub completion : (home : ℕ) (es fs : List Event) (c : Completion es fs) → (hs : List Event) × (h : HomeFilled home es hs) × Adds home h c
