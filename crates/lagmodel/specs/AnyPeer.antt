-- One system on its cables, and whatever is at their other ends: other systems of any kind. What they send is free, but that a Marker
-- Response on a cable answers the marker that has come there first (6.5.4; profile).
use Rattle.std.specs.Prelude.{◌≡◌, ◌<◌, ◌⊎◌, ℕ, Bool, true, false, cond, eqb, Option, Some, None, List, [], ◌∷◌, ◌++◌, length, slice_index}
use Rattle.lagmodel.specs.View.{PortFacts, View, SystemSetup, IsSystemSetup, first_view, ControlMessage, Marker, Response, Lacp, ModelCall}
use Rattle.lagmodel.specs.View.{Receive, Set_link, Force, is_restart}
use Rattle.lagmodel.specs.Move.{Act, LawfulMoves, Move, MoveAllowed, view_after, act}
use Rattle.lagmodel.specs.World.{One, Message, Control, Data, at_two, at_cable, put_on_cable, on_cable_after, sent_after}
use Rattle.lagmodel.specs.World.{TakenLacpdu, taken_after}
use Rattle.lagmodel.specs.Law.{IsSubsequence}
use Rattle.lagmodel.specs.Overtaking.{Overtakes}

-- the system, and what is on its cables: away from it, and towards it
pub record Scene : Type 0 where
  pub view : View
  pub whole : ℕ → Bool
  pub out : ℕ → List Message
  pub back : ℕ → List Message
  pub taken : ℕ → Option TakenLacpdu  -- the LACPDU that a port took last
  pub sent : ℕ → ℕ → List ℕ
  pub collected : ℕ → ℕ → List ℕ  -- the serials that were handed up at other ends, in their order
  pub forced : ℕ → ℕ → Bool

abbrev pub first_scene : SystemSetup → Scene
first_scene u = record {
  view = first_view u;
  whole = λ c. true;
  out = λ c. [];
  back = λ c. [];
  taken = λ p. None;
  sent = λ g k. [];
  collected = λ g k. [];
  forced = λ g k. false;
}

-- what a call may bring: what came stands first on its cable; a link that is said to be down has its cable cut; a conversation that is
-- forced counts as forced
pub record Fits (call : ModelCall) (stamp : ℕ) (ends : ℕ → Option ℕ) (w : Scene) : Type 0 where
  pub running : is_restart call ≡ false
  pub came : (p : ℕ) (pdu : ControlMessage) → call ≡ Receive p (Some pdu) → (c : ℕ) → ends c ≡ Some p → (ms : List Message)
      × (w.back c ≡ Control pdu stamp ∷ ms)
  pub downed : (p : ℕ) → call ≡ Set_link p false → (c : ℕ) → ends c ≡ Some p → w.whole c ≡ false
  pub forcing : (g k : ℕ) → call ≡ Force g k → w.forced g k ≡ true

-- After a visible act of the system, but for its view. `accepted`: whether the cable accepts what it sends. `stamp`: the stamp of what came
-- in this call.
abbrev pub scene_after_act : (ℕ → Option ℕ) → ℕ → Bool → Option Act → Scene → Scene
scene_after_act ends stamp accepted seen w = record w {
  out = on_cable_after One ends w.whole (λ p. 0) w.sent accepted seen w.out;
  sent = sent_after seen w.sent;
  taken = taken_after stamp seen w.taken;
}

-- after one move of the system, and whether a cable accepts what it sends
abbrev pub scene_after : SystemSetup → (ℕ → Option ℕ) → ℕ → Move × Bool → Scene → Scene
scene_after u ends stamp m w = record (scene_after_act ends stamp m.1 (act u m.0 w.view) w) { view = view_after u m.0 w.view }

abbrev pub Moves : SystemSetup → (ℕ → Option ℕ) → ModelCall → ℕ → List (Move × Bool) → Scene → Scene → Type 0
Moves u ends call stamp [] old new = new ≡ old
Moves u ends call stamp (m ∷ ms) old new =
    MoveAllowed u call old.view m.0 × Moves u ends call stamp ms (scene_after u ends stamp m old) new

-- no Marker Response
abbrev pub IsNoResponse : Message → Type 0
IsNoResponse (Control (Response mac p n) stamp) = ⊥
IsNoResponse (Control (Lacp pdu) stamp) = Unit {0}
IsNoResponse (Control (Marker mac p n) stamp) = Unit {0}
IsNoResponse (Data origin g k n) = Unit {0}

-- a message joins what is on cable c towards the system, if that is whole and accepts it
abbrev pub only : ℕ → ℕ → Option ℕ
only c d = cond (eqb d c) (Some 0) None

abbrev pub with_back : Scene → ℕ → Bool → Message → Scene
with_back w c kept m = record w { back = put_on_cable (only c) w.whole kept 0 m w.back }

pub data Happening : Type 0 where
  Calls : (call : ModelCall) (stamp : ℕ) (moves : List (Move × Bool)) → Happening  -- the system makes a call
  Gone : (cable : ℕ) (m : Message) (ms : List Message) → Happening  -- what came is taken off the cable, or is lost
  Says : (cable : ℕ) (kept : Bool) (m : Message) → Happening  -- the other end sends anything but a response
  Answers : (cable : ℕ) (kept : Bool) (mac : List ℕ) (p n stamp : ℕ) (ms : List Message) → Happening  -- it answers the marker that came first
  HandsUp : (cable g k n : ℕ) (ms : List Message) → Happening  -- it hands up the frame that came first
  Takes : (cable : ℕ) (m : Message) (ms : List Message) → Happening  -- it takes what came first, or that is lost
  OvertakesOut : (cable : ℕ) (ms : List Message) → Happening  -- an LACPDU goes by what is before it, and is none; on the way out
  OvertakesBack : (cable : ℕ) (ms : List Message) → Happening  -- or on the way back
  Cuts : (cable : ℕ) → Happening
  Joins : (cable : ℕ) → Happening
  Restarts : Happening  -- of the system: what is on its cables is lost
  Forces : (g k : ℕ) → Happening  -- a conversation counts as forced from now on

abbrev pub Comes : SystemSetup → (ℕ → Option ℕ) → Happening → Scene → Scene → Type 0
Comes u ends (Calls call stamp moves) old new = Fits call stamp ends old × Moves u ends call stamp moves old new
Comes u ends (Gone c m ms) old new = (old.back c ≡ m ∷ ms) × (new ≡ record old { back = at_cable old.back c ms })
Comes u ends (Says c kept m) old new = IsNoResponse m × (new ≡ with_back old c kept m)
Comes u ends (Answers c kept mac p n stamp ms) old new =
    (old.out c ≡ Control (Marker mac p n) stamp ∷ ms) × (new ≡ with_back old c kept (Control (Response mac p n) 0))
Comes u ends (HandsUp c g k n ms) old new = (old.out c ≡ Data One g k n ∷ ms)
    × (new ≡ record old { out = at_cable old.out c ms; collected = at_two old.collected g k (old.collected g k ++ n ∷ []) })
Comes u ends (Takes c m ms) old new = (old.out c ≡ m ∷ ms) × (new ≡ record old { out = at_cable old.out c ms })
Comes u ends (OvertakesOut c ms) old new = Overtakes (old.out c) ms × (new ≡ record old { out = at_cable old.out c ms })
Comes u ends (OvertakesBack c ms) old new = Overtakes (old.back c) ms × (new ≡ record old { back = at_cable old.back c ms })
Comes u ends (Cuts c) old new =
    new ≡ record old { whole = at_cable old.whole c false; out = at_cable old.out c []; back = at_cable old.back c [] }
Comes u ends (Joins c) old new = new ≡ record old { whole = at_cable old.whole c true }
Comes u ends Restarts old new = new ≡ record old { view = first_view u; out = λ c. []; back = λ c. [] }
Comes u ends (Forces g k) old new = new ≡ record old { forced = at_two old.forced g k true }

abbrev pub ComesAll : SystemSetup → (ℕ → Option ℕ) → List Happening → Scene → Scene → Type 0
ComesAll u ends [] old new = new ≡ old
ComesAll u ends (e ∷ es) old new = (mid : Scene) × Comes u ends e old mid × ComesAll u ends es mid new

-- it holds after each of these, whatever the other ends are, and send; no port of the system has two cables
abbrev pub HoldsWithAnyPeer : (Scene → Type 0) → Type 0
HoldsWithAnyPeer P = (u : SystemSetup) (ends : ℕ → Option ℕ) (es : List Happening) (w : Scene) → IsSystemSetup u
    → ((c d p : ℕ) → ends c ≡ Some p → ends d ≡ Some p → c ≡ d) → ComesAll u ends es (first_scene u) w → P w

-- what is handed up of a conversation that was never forced is a subsequence of what was sent
abbrev pub OrderHolds : Scene → Type 0
OrderHolds w = (g k : ℕ) → w.forced g k ≡ false → IsSubsequence (w.collected g k) (w.sent g k)

-- A distributing port whose partner is not defaulted took an LACPDU, and the last one said IN_SYNC; its Actor is the recorded partner, and
-- its Partner is the port, unless that Actor is not aggregatable (6.4.9, 6.4.14.1).
abbrev pub TookInSync : Scene → Type 0
TookInSync w = (p : ℕ) (a : PortFacts) → w.view.port p ≡ Some a → a.distributes ≡ true → a.defaulted ≡ false
    → (m : TakenLacpdu) × (w.taken p ≡ Some m) × (a.partner ≡ m.pdu.actor) × (m.pdu.synchronized ≡ true)
    × ((m.pdu.partner ≡ a.party) ⊎ (m.pdu.actor.aggregatable ≡ false))

-- There is such a run in which a port comes to distribute, not on defaults, with the Actor of the LACPDU that it took last as its partner;
-- and two frames arrive of conversation 48, which was never forced: a marker went out behind the first, and was answered.
abbrev pub ArrivesAtAnyPeer : Type 0
ArrivesAtAnyPeer = (u : SystemSetup) × (ends : ℕ → Option ℕ) × (es before after : List Happening) × (w : Scene) × (a : PortFacts) × (m : TakenLacpdu)
    × (n : ℕ) × IsSystemSetup u × ((c d p : ℕ) → ends c ≡ Some p → ends d ≡ Some p → c ≡ d) × ComesAll u ends es (first_scene u) w
    × (ends 1 ≡ Some 1) × (w.view.port 1 ≡ Some a) × (a.distributes ≡ true) × (a.defaulted ≡ false) × (w.taken 1 ≡ Some m)
    × (a.partner ≡ m.pdu.actor) × (w.forced 1 48 ≡ false) × (w.sent 1 48 ≡ 0 ∷ 1 ∷ []) × (w.collected 1 48 ≡ 0 ∷ 1 ∷ [])
    × (es ≡ before ++ Answers 1 true u.system.mac 1 n 0 [] ∷ after)

-- The scene after these visible acts of a call that ended in the view v. `accepts`: whether the cables accept what an act sends.
abbrev pub scene_after_acts : (ℕ → Option ℕ) → ℕ → (Act → Bool) → List Act → View → Scene → Scene
scene_after_acts ends stamp accepts [] v w = record w { view = v }
scene_after_acts ends stamp accepts (a ∷ more) v w =
    scene_after_acts ends stamp accepts more v (scene_after_act ends stamp (accepts a) (Some a) w)

-- Each lawful call is one of these, whatever cables accept, and leaves the scene that its visible acts leave, frames on the cables with
-- them: so each call of every system whose calls are lawful moves.
abbrev pub EachCallIsOne : Type 0
EachCallIsOne = (u : SystemSetup) (ends : ℕ → Option ℕ) (call : ModelCall) (stamp : ℕ) (accepts : Act → Bool) (seen : List Act) (old : Scene)
    (v : View) → LawfulMoves u call old.view seen v → Fits call stamp ends old
    → (moves : List (Move × Bool)) × Comes u ends (Calls call stamp moves) old (scene_after_acts ends stamp accepts seen v old)

-- the serials that a conversation sent are 0, 1, 2 and so on, so no two of its frames have the same one
abbrev pub SerialsCountFromZero : Scene → Type 0
SerialsCountFromZero w = (g k i : ℕ) → i < length (w.sent g k) → slice_index (w.sent g k) i ≡ i
