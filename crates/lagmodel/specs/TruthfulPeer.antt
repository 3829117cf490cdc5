-- Peers that name themselves as they are in the LACPDUs that they send: one system beside them names them so (6.3.6, 6.4.9; profile).
use Rattle.std.specs.Prelude.{◌≡◌, ◌≢◌, ℕ, suc, Bool, true, false, Option, Some, List, [], ◌∷◌}
use Rattle.lagtypes.specs.declared.party.Party.{Party}
use Rattle.lagmodel.specs.View.{PortFacts, SystemSetup, IsSystemSetup, Lacp, Marker, Response}
use Rattle.lagmodel.specs.World.{Message, Control, Data, TakenLacpdu, at_cable}
use Rattle.lagmodel.specs.AnyPeer.{Scene, Happening, Calls, Gone, Says, Answers, HandsUp, Takes, OvertakesOut, OvertakesBack, Cuts, Joins}
use Rattle.lagmodel.specs.AnyPeer.{Restarts, Forces, Comes, first_scene}

-- the own parameters of the other end of each cable, and how often they changed
pub record FarEnds : Type 0 where
  pub party : ℕ → Party
  pub count : ℕ → ℕ

-- a truthful end names its own parameters as they are, with its change count as the stamp; another one whatever it likes
abbrev pub NamesItself : (truthful : Bool) → Party → ℕ → Message → Type 0
NamesItself false party count m = Unit {0}
NamesItself true party count (Control (Lacp pdu) stamp) = (pdu.actor ≡ party) × (stamp ≡ count)
NamesItself true party count (Control (Marker mac p n) stamp) = Unit {0}
NamesItself true party count (Control (Response mac p n) stamp) = Unit {0}
NamesItself true party count (Data origin g k n) = Unit {0}

abbrev pub IsTruthful : (ℕ → Bool) → FarEnds → Happening → Type 0
IsTruthful truthful f (Says c kept m) = NamesItself (truthful c) (f.party c) (f.count c) m
IsTruthful truthful f (Calls call stamp moves) = Unit {0}
IsTruthful truthful f (Gone c m ms) = Unit {0}
IsTruthful truthful f (Answers c kept mac p n stamp ms) = Unit {0}
IsTruthful truthful f (HandsUp c g k n ms) = Unit {0}
IsTruthful truthful f (Takes c m ms) = Unit {0}
IsTruthful truthful f (OvertakesOut c ms) = Unit {0}
IsTruthful truthful f (OvertakesBack c ms) = Unit {0}
IsTruthful truthful f (Cuts c) = Unit {0}
IsTruthful truthful f (Joins c) = Unit {0}
IsTruthful truthful f Restarts = Unit {0}
IsTruthful truthful f (Forces g k) = Unit {0}

-- something happens, or the other end of a cable gets other parameters
pub data Telling : Type 0 where
  So : (e : Happening) → Telling
  Changes : (cable : ℕ) (party : Party) → Telling

abbrev pub changed : FarEnds → ℕ → Party → FarEnds
changed f c party = record { party = at_cable f.party c party; count = at_cable f.count c (suc (f.count c)) }

abbrev pub TellingRun : (ℕ → Bool) → SystemSetup → (ℕ → Option ℕ) → List Telling → Scene → FarEnds → Scene → FarEnds → Type 0
TellingRun truthful u ends [] old f new g = (new ≡ old) × (g ≡ f)
TellingRun truthful u ends (So e ∷ es) old f new g =
    (mid : Scene) × Comes u ends e old mid × IsTruthful truthful f e × TellingRun truthful u ends es mid f new g
TellingRun truthful u ends (Changes c party ∷ es) old f new g =
    (party ≢ f.party c) × TellingRun truthful u ends es old (changed f c party) new g

abbrev pub first_ends : (ℕ → Party) → FarEnds
first_ends party = record { party = party; count = λ c. 0 }

-- A port that is not defaulted has recorded the truthful end of its cable as it is, if that did not change since it sent the LACPDU that
-- the port took last. So two truthful ends have the same group (`group` of two parties that name each other).
abbrev pub NamesTruthfulPeer : Type 0
NamesTruthfulPeer = (truthful : ℕ → Bool) (u : SystemSetup) (ends : ℕ → Option ℕ) (party : ℕ → Party) (es : List Telling) (w : Scene)
    (f : FarEnds) → IsSystemSetup u → ((c d p : ℕ) → ends c ≡ Some p → ends d ≡ Some p → c ≡ d)
    → TellingRun truthful u ends es (first_scene u) (first_ends party) w f
    → (c p : ℕ) (a : PortFacts) (m : TakenLacpdu) → truthful c ≡ true → ends c ≡ Some p → w.view.port p ≡ Some a → a.defaulted ≡ false
    → w.taken p ≡ Some m → m.stamp ≡ f.count c → a.partner ≡ f.party c
