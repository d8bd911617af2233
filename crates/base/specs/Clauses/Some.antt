-- What a function asks for without being told of which: that P holds of one.

pub record Some {A : Type 0} (P : A → Type 0) : Type 0 where
  pub one : A
  pub holds : P one
