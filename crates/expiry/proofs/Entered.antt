-- A run one call further, and at its end.
use Rattle.std.proofs.Common.{◌≡◌, ℕ, zero, suc, ◌+◌, ◌<◌, ◌≤◌, List, [], ◌∷◌, ◌++◌, length, get_or, take, set, Ok, refl, ap, ◌∙◌}
use Rattle.std.proofs.lemmas.List.{take_more_set, take_all}
use Rattle.rules.specs.declared.call.Call.{Call}
use Rattle.rules.specs.declared.call.Call.TheVariants.{Notice}
use Rattle.rules.specs.declared.speaker.Speaker.TheVariants.{Member}
use Rattle.rules.specs.declared.answer.Answer.TheVariants.{Done}
use Rattle.rules.specs.Histories as histories
use Rattle.expiry.specs.declared.expiry.runs.Entry.{Entry}
use Rattle.expiry.specs.Running.{calls_in, entered}

-- What a place past the end reads as.
abbrev pub no_entry : Entry
no_entry = record { call = Notice (Member 0) 0 0 0 0; answer = Ok Done }

entered_more : (es : List Entry) (e : Entry) (h : List histories.Entry) → entered (es ++ e ∷ []) h ≡ (e.call, e.answer) ∷ entered es h
entered_more [] e h = refl
entered_more (x ∷ es) e h = entered_more es e ((x.call, x.answer) ∷ h)

pub entered_next : (es : List Entry) (i : ℕ) (e : Entry) (h : List histories.Entry) → i < length es → entered (take (i + 1) (set es i e)) h ≡ (e.call, e.answer) ∷ entered (take i es) h
entered_next es i e h lt = ap (λ (xs : List Entry). entered xs h) (take_more_set es i e lt) ∙ entered_more (take i es) e h

pub entered_all : (es : List Entry) (i : ℕ) (h : List histories.Entry) → length es ≤ i → entered (take i es) h ≡ entered es h
entered_all es i h past = ap (λ (xs : List Entry). entered xs h) (take_all i es past)

pub calls_kept : (es : List Entry) (i : ℕ) (e : Entry) → e.call ≡ (get_or es i no_entry).call → calls_in (set es i e) ≡ calls_in es
calls_kept [] i e p = refl
calls_kept (x ∷ es) zero e p = ap (λ (c : Call). c ∷ calls_in es) p
calls_kept (x ∷ es) (suc i) e p = ap (λ (cs : List Call). x.call ∷ cs) (calls_kept es i e p)
