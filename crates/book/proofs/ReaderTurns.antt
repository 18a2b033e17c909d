-- One turn of the reader: a line, and the others after it.
use Rattle.std.proofs.Common.{◌≡◌, ℕ, suc, ◌+◌, ◌<◌, Bool, true, false, not, eqb, List, [], ◌∷◌, length, take, drop, Ok, Err, Result, sym, refl, ap, ◌∙◌, subst, arith, length-drop, length-take, ne_eqb}
use Rattle.std.proofs.lemmas.List.{nil_from_length}
use Rattle.std.proofs.lemmas.Bool.{cond-false}
use Rattle.std.proofs.lemmas.Bool.Decides.{nat_tests}
use Rattle.text.specs.Parts.{stop, parts, later}
use Rattle.text.proofs.PartsAt.{parts_step, parts_some}
use Rattle.book.specs.declared.fault.ReadFault.{ReadFault}
use Rattle.book.specs.declared.fault.ReadFault.TheVariants.{Refused, NoMemory}
use Rattle.book.specs.declared.lines.Line.{Line}
use Rattle.book.specs.declared.lines.Lines.{Lines}
use Rattle.book.specs.Lines.{Stepped}
use Rattle.book.specs.Reading.{Draft, Read, next, onward, read_on}
use Rattle.book.specs.Data.{Does, Gives}

none_later : (m : List ℕ) → length m ≡ 0 → later 10 m ≡ []
none_later [] h = refl
none_later (c ∷ cs) h = absurd (omega arith)

some_later : (m : List ℕ) → 0 < length m → later 10 m ≡ parts 10 (drop 1 m)
some_later [] h = absurd (omega arith)
some_later (c ∷ cs) h = refl

onward_on : (l : ℕ) (d : Draft) (f : List ℕ) (ps : List (List ℕ)) → 0 < length ps → read_on l d (f ∷ ps) ≡ onward (next l d f true) (λ e. read_on (suc l) e ps)
onward_on l d f [] h = absurd (omega arith)
onward_on l d f (p ∷ ps) h = refl

-- a line with its end, and the lines after it
pub read_line : (l : ℕ) (d : Draft) (f t : List ℕ) → read_on l d (f ∷ parts 10 t) ≡ onward (next l d f true) (λ e. read_on (suc l) e (parts 10 t))
read_line l d f t = onward_on l d f (parts 10 t) (parts_some 10 t)

-- where nothing is left, a draft is what was read
onward_last : (l : ℕ) (n : Read) (t : List ℕ) → t ≡ [] → onward n (λ e. read_on l e (parts 10 t)) ≡ n
onward_last l (Ok d) t h = ap (λ x. read_on l d (parts 10 x)) h
onward_last l (Err e) t h = refl

abbrev more : List ℕ → List ℕ
more s = drop (stop 10 s) s

-- the last line, without a line end
turn_last : (l k : ℕ) (d : Draft) (s : List ℕ) → 0 < length s → length (more s) ≡ 0 → read_on l d (parts 10 s) ≡ onward (next l d (take (stop 10 s) s) false) (λ e. read_on k e (parts 10 (drop 1 (more s))))
turn_last l k d s h n =
    let f = take (stop 10 s) s in
    let long : 0 < length f = omega (arith, length-take (stop 10 s) s, length-drop (stop 10 s) s) in
    let none : drop 1 (more s) ≡ [] = nil_from_length (drop 1 (more s)) (omega (arith, length-drop 1 (more s))) in
    ap (read_on l d) (parts_step 10 s ∙ ap (λ r. f ∷ r) (none_later (more s) n)) ∙ cond-false (eqb (length f) 0) _ _ (ne_eqb (length f) 0 (λ e. omega arith)) ∙ sym (onward_last k (next l d f false) (drop 1 (more s)) none)

-- a line with its end, and the lines after it
turn_line : (l : ℕ) (d : Draft) (s : List ℕ) → 0 < length (more s) → read_on l d (parts 10 s) ≡ onward (next l d (take (stop 10 s) s) true) (λ e. read_on (suc l) e (parts 10 (drop 1 (more s))))
turn_line l d s n = ap (read_on l d) (parts_step 10 s ∙ ap (λ r. take (stop 10 s) s ∷ r) (some_later (more s) n)) ∙ read_line l d (take (stop 10 s) s) (drop 1 (more s))

-- a line end follows exactly where something is left
ends : (s : List ℕ) → true ≡ not (eqb (length (more s)) 0) → 0 < length (more s)
ends s e = grind (arith, nat_tests)

ends_not : (s : List ℕ) → false ≡ not (eqb (length (more s)) 0) → length (more s) ≡ 0
ends_not s e = grind (arith, nat_tests)

turn_by : (l k : ℕ) (d : Draft) (s : List ℕ) (ended : Bool) → k ≡ l + 1 → 0 < length s → ended ≡ not (eqb (length (more s)) 0) → read_on l d (parts 10 s) ≡ onward (next l d (take (stop 10 s) s) ended) (λ e. read_on k e (parts 10 (drop 1 (more s))))
turn_by l k d s true n some e = let one : k ≡ suc l = omega arith in turn_line l d s (ends s e) ∙ ap (λ m. onward (next l d (take (stop 10 s) s) true) (λ x. read_on m x (parts 10 (drop 1 (more s))))) (sym one)
turn_by l k d s false n some e = turn_last l k d s some (ends_not s e)

-- a step of the lines is a turn of the reader
pub turn : (s t : Lines) (line : Line) (d : Draft) → Stepped s line t → read_on s.number d (parts 10 s.rest.now) ≡ onward (next line.number d line.bytes.now line.ended) (λ e. read_on t.number e (parts 10 t.rest.now))
turn s t line d h = rw (h.number, h.bytes, h.rest) (turn_by s.number t.number d s.rest.now line.ended h.next_number h.some h.ended)

-- what a refused line refuses, the file does
pub refused_line : {T : Type 0} (holds : T → Draft) (r : Result T ReadFault) (e : ReadFault) (n : Read) (x : Draft) (go : Draft → Read) (all : Read) → r ≡ Err e → Does (Err e) n x → all ≡ onward n go → Gives holds r all
refused_line holds r (Refused q) n x go all p a h = subst (λ y. Gives holds y all) (sym p) (h ∙ ap (λ y. onward y go) a)
refused_line holds r NoMemory n x go all p a h = subst (λ y. Gives holds y all) (sym p) tt
