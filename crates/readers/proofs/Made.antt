-- A value made into another keeps the laws.
use Rattle.std.proofs.Common.{◌≡◌, ℕ, Bool, List, ◌∷◌, ◌++◌, length, Ok, Err, None, Some, refl, sym, ap, subst, ◌∙◌}
use Rattle.readers.specs.declared.stop.Stop.TheVariants.{Bad, End, Deep}
use Rattle.readers.specs.Spelling.{Form, Begun, Within}
use Rattle.readers.specs.Readers.{Reader, made}
use Rattle.readers.proofs.Cases.{made_ok, made_err}
use Rattle.readers.proofs.Cuts.{After, cut}
use Rattle.readers.proofs.Laws.{Breaks, Dives, Laws}

-- what is made of a shaped value
abbrev pub Of : {A B : Type 0} → (A → B) → (A → Type 0) → B → Type 0
Of {A = A} make shaped b = (a : A) × shaped a × (make a ≡ b)

module _ (n : ℕ) {A B : Type 0} (r : Reader A) (F : Form A) (follows : ℕ → Bool) (laws : Laws n r F follows)
    (make : A → B) (print depths : B → List ℕ)
    (spelled : (a : A) → F.shaped a → print (make a) ≡ F.print a) (marked : (a : A) → F.shaped a → depths (make a) ≡ F.depths a) where
  -- the form of what is made
  abbrev H : Form B
  H = record { print = print; depths = depths; shaped = Of make F.shaped }

  -- it is cut where its part is
  cuts : (a : A) → F.shaped a → cut n (print (make a)) (depths (make a)) ≡ cut n (F.print a) (F.depths a)
  cuts a f = rw (spelled a f, marked a f) refl

  -- the spelling of the part is its spelling
  takes : (bytes : List ℕ) (b : B) (rest : List ℕ) → made make r bytes ≡ Ok (b, rest) → (bytes ≡ print b ++ rest) × H.shaped b × Within n (depths b)
  takes bytes b rest e =
      let h = made_ok make (r bytes) b rest e in
      let k = laws.takes bytes h.0 rest h.1 in
      let text : bytes ≡ print (make h.0) ++ rest = k.0 ∙ ap (λ (z : List ℕ). z ++ rest) (sym (spelled h.0 k.1)) in
      let within : Within n (depths (make h.0)) = rw (marked h.0 k.1) k.2 in
      (subst (λ (z : B). bytes ≡ print z ++ rest) h.2 text, (h.0, k.1, h.2), subst (λ (z : B). Within n (depths z)) h.2 within)

  -- a depth for each byte
  long : (b : B) → H.shaped b → cut n (print b) (depths b) ≡ None → length (depths b) ≡ length (print b)
  long b f = subst (λ (z : B). cut n (print z) (depths z) ≡ None → length (depths z) ≡ length (print z)) f.2
      (λ e. rw (spelled f.0 f.1, marked f.0 f.1) (laws.long f.0 f.1 (sym (cuts f.0 f.1) ∙ e)))

  -- its spelling is read
  again : (b : B) (rest : List ℕ) → H.shaped b → cut n (print b) (depths b) ≡ None → After follows rest → made make r (print b ++ rest) ≡ Ok (b, rest)
  again b rest f = subst (λ (z : B). cut n (print z) (depths z) ≡ None → After follows rest → made make r (print z ++ rest) ≡ Ok (z, rest)) f.2
      (λ e after. rw (spelled f.0 f.1, laws.again f.0 rest f.1 (sym (cuts f.0 f.1) ∙ e) after) refl)

  -- up to the first node that is too deep
  dives : (b : B) (front : List ℕ) (x : ℕ) (other : List ℕ) → H.shaped b → cut n (print b) (depths b) ≡ Some (front, x) → made make r (front ++ (x ∷ other)) ≡ Err (Deep (length (x ∷ other)))
  dives b front x other f = subst (λ (z : B). cut n (print z) (depths z) ≡ Some (front, x) → made make r (front ++ (x ∷ other)) ≡ Err (Deep (length (x ∷ other)))) f.2
      (λ e. rw (laws.dives f.0 front x other f.1 (sym (cuts f.0 f.1) ∙ e)) refl)

  -- the byte after it decides
  holds : (bytes : List ℕ) (b : B) (x : ℕ) (more other : List ℕ) → made make r bytes ≡ Ok (b, x ∷ more) → made make r (print b ++ (x ∷ other)) ≡ Ok (b, x ∷ other)
  holds bytes b x more other e =
      let h = made_ok make (r bytes) b (x ∷ more) e in
      let k = laws.holds bytes h.0 x more other h.1 in
      let f = (laws.takes bytes h.0 (x ∷ more) h.1).1 in
      let at_made : made make r (print (make h.0) ++ (x ∷ other)) ≡ Ok (make h.0, x ∷ other) = rw (spelled h.0 f, k) refl in
      subst (λ (z : B). made make r (print z ++ (x ∷ other)) ≡ Ok (z, x ∷ other)) h.2 at_made

  -- the front of the part's spelling
  begun : (text : List ℕ) → Begun F.print F.shaped text → Begun print H.shaped text
  begun text g = record { whole = make g.whole; is_shaped = (g.whole, g.is_shaped, refl); more = g.more; spelled = spelled g.whole g.is_shaped ∙ g.spelled }

  -- a wrong byte
  bad : (bytes : List ℕ) (left : ℕ) → made make r bytes ≡ Err (Bad left) → Breaks (made make r) H bytes left
  bad bytes left e =
      let k = laws.bad bytes left (made_err make (r bytes) (Bad left) e) in
      record { front = k.front; byte = k.byte; rest = k.rest; parts = k.parts; place = k.place; stays = λ other. rw (k.stays other) refl; begun = begun k.front k.begun }

  -- too deep
  deep : (bytes : List ℕ) (left : ℕ) → made make r bytes ≡ Err (Deep left) → Dives n H bytes left
  deep bytes left e =
      let k = laws.deep bytes left (made_err make (r bytes) (Deep left) e) in
      record { front = k.front; byte = k.byte; rest = k.rest; parts = k.parts; place = k.place; whole = make k.whole; is_shaped = (k.whole, k.is_shaped, refl); first = cuts k.whole k.is_shaped ∙ k.first }

  -- a value made into another keeps the laws
  pub made_laws : Laws n (made make r) (record { print = print; depths = depths; shaped = Of make F.shaped }) follows
  made_laws = record {
    takes = takes;
    long = long;
    again = again;
    dives = dives;
    holds = holds;
    bad = bad;
    deep = deep;
    ending = λ bytes e. begun bytes (laws.ending bytes (made_err make (r bytes) End e));
  }
