pub mod Settings
pub mod SettingSteps
pub mod ModeSettings
