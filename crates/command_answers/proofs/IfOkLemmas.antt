-- What is right for what is made.
use Rattle.std.proofs.Common.{Result, Ok, Err}
use Rattle.std.specs.Prelude.{IfOk}

pub if_ok-all : {A E : Type 0} (P : A → Type 0) (r : Result A E) → ((x : A) → P x) → IfOk r P
if_ok-all P (Ok x) f = f x
if_ok-all P (Err e) f = tt

pub if_ok-map : {A E : Type 0} (P Q : A → Type 0) (r : Result A E) → ((x : A) → P x → Q x) → IfOk r P → IfOk r Q
if_ok-map P Q (Ok x) f right = f x right
if_ok-map P Q (Err e) f right = tt

pub if_ok-both : {A E : Type 0} (P Q R : A → Type 0) (r : Result A E) → ((x : A) → P x → Q x → R x) → IfOk r P → IfOk r Q → IfOk r R
if_ok-both P Q R (Ok x) f one other = f x one other
if_ok-both P Q R (Err e) f one other = tt
