-- What the proof of `set_calendar` cites.
mod Told
mod Setting
