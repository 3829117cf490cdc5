-- Moves of one port, whatever the other ports are, and moves of each port of a list.
use Rattle.lagsystem.proofs.Common.{Bool, List, Option, Some, [], ap, append_assoc, arith, cond, eq-eqb, eqb, length, option_map, refl, slice_get}
use Rattle.lagsystem.proofs.Common.{slice_set, subst, sym, ℕ, ◌++◌, ◌∙◌, ◌∷◌, ◌≡◌, nat_tests, AllZip, option_to_list, AreNumbered, Act, LawfulMoves}
use Rattle.lagsystem.proofs.Common.{PortAllowed, PortMove, port_act, port_after, DistributorFacts, ModelCall, PortFacts, SystemSetup, View, at_port}
use Rattle.lagsystem.proofs.Common.{cond_true, find_at, moves_joined, moves_port, numbered_set, ports_set, SystemPort, model_port_of, model_view_at}
use Rattle.lagsystem.proofs.Common.{number_of_port}

abbrev pub AllPortAllowed : SystemSetup → ModelCall → ℕ → List PortMove → PortFacts → Type 0
AllPortAllowed u call p [] a = Unit {0}
AllPortAllowed u call p (m ∷ ms) a =
    ((ports : ℕ → Option PortFacts) → PortAllowed u call ports p m a) × AllPortAllowed u call p ms (port_after m a)

abbrev pub after_moves : List PortMove → PortFacts → PortFacts
after_moves [] a = a
after_moves (m ∷ ms) a = after_moves ms (port_after m a)

abbrev pub port_acts : ℕ → List PortMove → PortFacts → List Act
port_acts p [] a = []
port_acts p (m ∷ ms) a = option_to_list (port_act p m a) ++ port_acts p ms (port_after m a)

-- a port goes by moves that are allowed whatever the other ports are
abbrev pub PortMoves : SystemSetup → ModelCall → ℕ → PortFacts → List Act → PortFacts → Type 0
PortMoves u call p a seen b =
    (ms : List PortMove) × AllPortAllowed u call p ms a × (port_acts p ms a ≡ seen) × (b ≡ after_moves ms a)

all_joined : (u : SystemSetup) (call : ModelCall) (p : ℕ) (xs ys : List PortMove) (a : PortFacts) → AllPortAllowed u call p xs a
    → AllPortAllowed u call p ys (after_moves xs a) → AllPortAllowed u call p (xs ++ ys) a
all_joined u call p [] ys a h i = i
all_joined u call p (m ∷ xs) ys a h i = (h.0, all_joined u call p xs ys (port_after m a) h.1 i)

after_joined : (xs ys : List PortMove) (a : PortFacts) → after_moves (xs ++ ys) a ≡ after_moves ys (after_moves xs a)
after_joined [] ys a = refl
after_joined (m ∷ xs) ys a = after_joined xs ys (port_after m a)

acts_joined : (p : ℕ) (xs ys : List PortMove) (a : PortFacts) → port_acts p (xs ++ ys) a ≡ port_acts p xs a ++ port_acts p ys (after_moves xs a)
acts_joined p [] ys a = refl
acts_joined p (m ∷ xs) ys a = grind (arith, nat_tests, acts_joined p xs ys (port_after m a))

pub port_joined : (u : SystemSetup) (call : ModelCall) (p : ℕ) (a b c : PortFacts) (seen more : List Act) → PortMoves u call p a seen b
    → PortMoves u call p b more c → PortMoves u call p a (seen ++ more) c
port_joined u call p a b c seen more x y = grind (arith, nat_tests, all_joined, acts_joined, after_joined)

pub port_stays : (u : SystemSetup) (call : ModelCall) (p : ℕ) (a b : PortFacts) → b ≡ a → PortMoves u call p a [] b
port_stays u call p a b e = ([], tt, refl, e)

-- at a place of the ports
stays_there : (ports : ℕ → Option PortFacts) (p : ℕ) (a : PortFacts) → ports p ≡ Some a → (q : ℕ) → at_port ports p (λ z. a) q ≡ ports q
stays_there ports p a h q = grind (arith, nat_tests)

written : (ports : ℕ → Option PortFacts) (p : ℕ) (a : PortFacts) (f : PortFacts → PortFacts) → ports p ≡ Some a → at_port ports p f p ≡ Some (f a)
written ports p a f h = cond_true (eqb p p) (option_map f (ports p)) (ports p) (eq-eqb p p refl) ∙ ap (option_map f) h

twice : (b : Bool) (o : Option PortFacts) (f : PortFacts → PortFacts) (c : PortFacts)
    → cond b (option_map (λ (z : PortFacts). c) (cond b (option_map f o) o)) (cond b (option_map f o) o) ≡ cond b (option_map (λ (z : PortFacts). c) o) o
twice b o f c = grind (arith, nat_tests)

places : (u : SystemSetup) (call : ModelCall) (p : ℕ) (ms : List PortMove) (v : View) (a : PortFacts) → v.port p ≡ Some a → AllPortAllowed u call p ms a
    → LawfulMoves u call v (port_acts p ms a) (record v { port = at_port v.port p (λ z. after_moves ms a) })
places u call p [] v a h x = ([], tt, refl, λ i. record v { port = λ q. stays_there v.port p a h q i })
places u call p (m ∷ ms) v a h x = let mid : View = record v { port = at_port v.port p (port_after m) } in
    let rest = places u call p ms mid (port_after m a) (written v.port p a (port_after m) h) x.1 in
    let end : View = record mid { port = at_port mid.port p (λ z. after_moves ms (port_after m a)) } in
    let same : end ≡ record v { port = at_port v.port p (λ z. after_moves ms (port_after m a)) } =
    λ i. record v { port = λ q. twice (eqb q p) (v.port q) (port_after m) (after_moves ms (port_after m a)) i } in
    subst (λ w. LawfulMoves u call v (port_acts p (m ∷ ms) a) w) same
    (moves_joined u call v mid end (option_to_list (port_act p m a)) (port_acts p ms (port_after m a))
    (moves_port u call v p m a h (x.0 v.port)) rest)

-- one port of a list moves
pub slot_moves : (u : SystemSetup) (call : ModelCall) (f : DistributorFacts) (system_ports : List SystemPort) (i : ℕ) (x y : SystemPort)
    (seen : List Act) → AreNumbered number_of_port system_ports → slice_get system_ports i ≡ Some x → y.number ≡ x.number
    → PortMoves u call x.number (model_port_of x) seen (model_port_of y)
    → LawfulMoves u call (model_view_at f system_ports) seen (model_view_at f (slice_set system_ports i y))
slot_moves u call f system_ports i x y seen n h e z = let v : View = model_view_at f system_ports in
    let there : v.port x.number ≡ Some (model_port_of x) = ap (option_map model_port_of) (find_at number_of_port system_ports i x n h) in
    let same : model_view_at f (slice_set system_ports i y) ≡ record v
    { port = at_port v.port x.number (λ a. after_moves z.0 (model_port_of x)) } =
    λ j. record {
      port = λ q. ports_set number_of_port model_port_of system_ports i x y (λ a. after_moves z.0 (model_port_of x)) n h
          e z.3 q j;
      flows = f;
    } in
    let all = places u call x.number z.0 v (model_port_of x) there z.1 in
    (all.0, all.1, all.2 ∙ z.2, same ∙ all.3)

-- each port of a list moves, one after another
set_here : (done olds : List SystemPort) (x y : SystemPort) → slice_set (done ++ x ∷ olds) (length done) y ≡ done ++ y ∷ olds
set_here [] olds x y = refl
set_here (z ∷ done) olds x y = ap (λ (l : List SystemPort). z ∷ l) (set_here done olds x y)

get_here : (done olds : List SystemPort) (x : SystemPort) → slice_get (done ++ x ∷ olds) (length done) ≡ Some x
get_here [] olds x = refl
get_here (z ∷ done) olds x = get_here done olds x

abbrev pub SlotMoves : SystemSetup → ModelCall → SystemPort → SystemPort → Type 0
SlotMoves u call x y = (y.number ≡ x.number) × PortMoves u call x.number (model_port_of x) [] (model_port_of y)

from_here : (u : SystemSetup) (call : ModelCall) (f : DistributorFacts) (done olds news : List SystemPort) → AreNumbered number_of_port (done ++ olds)
    → AllZip (SlotMoves u call) olds news → LawfulMoves u call (model_view_at f (done ++ olds)) [] (model_view_at f (done ++ news))
from_here u call f done [] [] n h = ([], tt, refl, refl)
from_here u call f done [] (y ∷ ys) n h = absurd h
from_here u call f done (x ∷ xs) [] n h = absurd h
from_here u call f done (x ∷ xs) (y ∷ ys) n h = let system_ports : List SystemPort = done ++ x ∷ xs in
    let here = get_here done xs x in
    let next : List SystemPort = (done ++ y ∷ []) ++ xs in
    let same : slice_set system_ports (length done) y ≡ next = set_here done xs x y ∙ sym (append_assoc done (y ∷ []) xs) in
    let one = subst (λ l. LawfulMoves u call (model_view_at f system_ports) [] (model_view_at f l)) same
    (slot_moves u call f system_ports (length done) x y [] n here h.0.0 h.0.1) in
    let numbered = subst (AreNumbered number_of_port) same (numbered_set number_of_port system_ports (length done) x y here h.0.0 n) in
    let rest = from_here u call f (done ++ y ∷ []) xs ys numbered h.1 in
    subst (λ l. LawfulMoves u call (model_view_at f system_ports) [] (model_view_at f l)) (append_assoc done (y ∷ []) ys)
    (moves_joined u call (model_view_at f system_ports) (model_view_at f next) (model_view_at f ((done ++ y ∷ []) ++ ys)) [] [] one rest)

pub all_slots_move : (u : SystemSetup) (call : ModelCall) (f : DistributorFacts) (olds news : List SystemPort) → AreNumbered number_of_port olds
    → AllZip (SlotMoves u call) olds news → LawfulMoves u call (model_view_at f olds) [] (model_view_at f news)
all_slots_move u call f olds news n h = from_here u call f [] olds news n h
